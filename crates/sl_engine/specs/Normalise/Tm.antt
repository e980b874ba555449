-- The normal form of a TM recording, which `normalise_tm` writes: this project's choice.
use Rattle.std.specs.Prelude.{ℕ, List}
use Rattle.sl_tmflow.specs.NormalForm.{normal_form}
use Rattle.sl_engine.specs.Kind.Tm.{tm_packets}
use Rattle.sl_engine.specs.Link.Managed.{Parameters, tm_format}

-- the normal form of lists of packets
unfoldable pub tm_form_of : Parameters → List (List (List ℕ)) → List ℕ
tm_form_of p lists = normal_form (tm_format p) p.spacecraft lists

-- the normal form of a recording
abbrev pub tm_normal_form : Parameters → List ℕ → List ℕ
tm_normal_form p recording = tm_form_of p (tm_packets p recording)
