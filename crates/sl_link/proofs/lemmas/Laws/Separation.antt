-- What normal forms tell of the packets of recordings.
use Rattle.std.proofs.Common.{arith, ℕ, List, ◌≡◌, Ok}
use Rattle.sl_tcflow.proofs.lemmas.Form.Delivery.{normal_form_delivers}
use Rattle.sl_tcflow.proofs.lemmas.Reception.PlainRecording.{recorded_lists_fit}
use Rattle.sl_tcflow.proofs.lemmas.Reception.Recording as tc_recording
use Rattle.sl_tmflow.proofs.lemmas.Form.Delivery.{delivers}
use Rattle.sl_tmflow.proofs.lemmas.Delivery.Recording as tm_recording
use Rattle.sl_engine.specs.Link.Managed.{AreAccepted, Parameters, managed_of, reception_of, tc_format, tm_format}
use Rattle.sl_engine.specs.Kind.Tc.{tc_packets}
use Rattle.sl_engine.specs.Normalise.Tc.{tc_form_of, tc_normal_form}
use Rattle.sl_engine.specs.Kind.Tm.{tm_packets}
use Rattle.sl_engine.specs.Normalise.Tm.{tm_form_of, tm_normal_form}
use Rattle.sl_link.specs.Laws.Separation.{FormsTellPackets, TmFormsTellPackets, TcFormsTellPackets}
use Rattle.sl_engine.proofs.lemmas.Link.Managed.{managed_length, managed_greatest, managed_spacecraft}

-- a form that is made of the packets alone, and delivers them
told : (packets : List ℕ → List (List (List ℕ))) (form_of : List (List (List ℕ)) → List ℕ) → ((recording : List ℕ) → packets (form_of (packets recording)) ≡ packets recording)
    → FormsTellPackets packets (λ recording. form_of (packets recording))
told packets form_of deliver = grind arith

-- ---- TM

pub tm_normal_form_delivers : (p : Parameters) (recording : List ℕ) → managed_of p ≡ Ok p → tm_packets p (tm_normal_form p recording) ≡ tm_packets p recording
unfolding tm_form_of
tm_normal_form_delivers p recording are =
    let range = managed_length p are in
    delivers (tm_format p) p.spacecraft (tm_packets p recording) (record { least = range.0; most = range.1 }) (managed_spacecraft p are)
    (tm_recording.recorded_lists_are_deliverable (tm_format p) p.spacecraft recording)

pub tm_forms_tell_packets : TmFormsTellPackets
tm_forms_tell_packets p are = told (tm_packets p) (tm_form_of p) (λ recording. tm_normal_form_delivers p recording are.allowed)

-- ---- TC

tc_normal_form_delivers : (p : Parameters) (recording : List ℕ) → AreAccepted p → tc_packets p (tc_normal_form p recording) ≡ tc_packets p recording
unfolding tc_form_of
tc_normal_form_delivers p recording are =
    let range = managed_greatest p are.allowed in
    normal_form_delivers (tc_format p) p.spacecraft (reception_of p) (tc_packets p recording) (record { least = range.0; most = range.1 }) (managed_spacecraft p are.allowed) are.starts
    (tc_recording.recorded_lists_are_deliverable (tc_format p) p.spacecraft (reception_of p) recording)
    (recorded_lists_fit (tc_format p) p.spacecraft (reception_of p) recording)

pub tc_forms_tell_packets : TcFormsTellPackets
tc_forms_tell_packets p are = told (tc_packets p) (tc_form_of p) (λ recording. tc_normal_form_delivers p recording are)
