-- The normal form of a TC recording, which `normalise_tc` writes: this project's choice.
use Rattle.std.specs.Prelude.{ℕ, List}
use Rattle.sl_tcflow.specs.TcNormalForm.{tc_normal_form_of}
use Rattle.sl_engine.specs.Kind.Tc.{tc_packets}
use Rattle.sl_engine.specs.Link.Managed.{Parameters, tc_format}

-- the normal form of lists of packets
unfoldable pub tc_form_of : Parameters → List (List (List ℕ)) → List ℕ
tc_form_of p lists = tc_normal_form_of (tc_format p) p.spacecraft p.starts p.plain lists

-- the normal form of a recording
abbrev pub tc_normal_form : Parameters → List ℕ → List ℕ
tc_normal_form p recording = tc_form_of p (tc_packets p recording)
