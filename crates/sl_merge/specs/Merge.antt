-- Whether a list of fates tells a merge of two recordings of TM transfer frames, CCSDS 132.0-B. What a merge is, is this
-- project's own choice. All but the last definitions look at the frames of one virtual channel.
use Rattle.std.specs.Prelude.{◌≡◌, ℕ, ◌+◌, ◌==◌, nat_eq, nat_le, Bool, true, false, not, cond, ◌&&◌, ◌||◌, List, [], ◌∷◌, take, drop, Option, None, Some, Result, Ok, Err, is_some, bytes_eq}
use Rattle.std.specs.List.{count_by, filter, list_all, list_any}
use Rattle.std.specs.Option.{option_eq}
use Rattle.sl_tmframe.specs.TmFrame.{TmFormat, TmView, field_len, tm_frame, tm_header_of}
use Rattle.sl_tmframe.specs.declared.tm_frame.TmSkip.{TmSkip}
use Rattle.sl_packet.specs.Sublist.{IsSublist}
use Rattle.sl_tmflow.specs.Among.{IsAmong}
use Rattle.sl_tmflow.specs.Loss.{recorded_packets}
use Rattle.sl_tmflow.specs.Recording.{virtual_channels}
use Rattle.sl_tmflow.specs.VirtualChannel.{follows}
use Rattle.sl_merge.specs.declared.fate.Fate.{Fate}
use Rattle.sl_merge.specs.declared.fate.Fate.TheVariants.{Both, First, FirstLeftOut, Second, SecondLeftOut}
use Rattle.sl_merge.specs.Fates.{Fated, exchanged, first_kept, fits_both, merged_octets, of_first, second_kept, stands, taken_of, turned}

-- ---- channels

abbrev pub vc_in : Result TmView TmSkip → Option ℕ
vc_in (Ok view) = Some view.vc
vc_in (Err reason) = None

-- the virtual channel of a frame; a skipped frame has none
abbrev pub vc_of : TmFormat → ℕ → List ℕ → Option ℕ
vc_of format spacecraft frame = vc_in (tm_frame format spacecraft frame)

-- the frames on a virtual channel
abbrev pub on_channel : TmFormat → ℕ → ℕ → List Fated → List Fated
on_channel format spacecraft vc items =
    filter (λ item. option_eq nat_eq (vc_of format spacecraft item.frame) (Some vc)) items

-- each frame that stands in the merge is one that is read
abbrev pub are_read : TmFormat → ℕ → List Fated → Bool
are_read format spacecraft items =
    list_all (λ item. not (stands item.fate) || is_some (vc_of format spacecraft item.frame)) items

-- ---- runs

-- the virtual channel frame count of a frame
abbrev pub count_of : List ℕ → ℕ
count_of frame = (tm_header_of frame).vcc

-- a count follows the one before it, if there is one
abbrev pub follows_last : Option ℕ → ℕ → Bool
follows_last None count = false
follows_last (Some last) count = follows last count

-- whether a frame stands and is one of the first recording
abbrev pub is_kept : Fated → Bool
is_kept item = stands item.fate && of_first item.fate

-- No run of the first recording is broken: where the count of a frame of it that stands follows that of its frame that
-- stands before it, no frame of the second alone stands between. `last` is the count of its last frame before these that
-- stands, and `between` says whether a frame of the second alone stood since.
abbrev pub breaks : Option ℕ → Bool → Fated → Bool
breaks last between item = is_kept item && (between && follows_last last (count_of item.frame))

abbrev pub last_after : Option ℕ → Fated → Option ℕ
last_after last item = cond (is_kept item) (Some (count_of item.frame)) last

abbrev pub between_after : Bool → Fated → Bool
between_after between item = cond (stands item.fate) (not (of_first item.fate)) between

abbrev pub is_unbroken : Option ℕ → Bool → List Fated → Bool
is_unbroken last between [] = true
is_unbroken last between (item ∷ later) =
    not (breaks last between item) && is_unbroken (last_after last item) (between_after between item) later

-- ---- what is left out

-- whether a frame is one of the first recording that is left out
abbrev pub is_left_out : Fated → Bool
is_left_out item = not (stands item.fate) && of_first item.fate

-- A frame that is left out is a repeat where it is, octet for octet, the frame before it of its recording, left out or
-- not. `before` is that frame, and no octets where there is none.
abbrev pub is_repeat : List ℕ → Fated → Bool
is_repeat before item = is_left_out item && bytes_eq before item.frame

abbrev pub before_after : List ℕ → Fated → List ℕ
before_after before item = cond (of_first item.fate) item.frame before

abbrev pub unless : Bool → Fated → List Fated → List Fated
unless is_out item later = cond is_out later (item ∷ later)

-- the frames without the repeats of the first recording
abbrev pub without_repeats : List ℕ → List Fated → List Fated
without_repeats before [] = []
without_repeats before (item ∷ later) =
    unless (is_repeat before item) item (without_repeats (before_after before item) later)

-- A stretch between frames of both: the count of the frame of both before it, if there is one, how many frames of the
-- first recording are left out of it, and how many of the second alone stand in it.
pub record Stretch : Type 0 where
  pub after : Option ℕ
  pub left_out : ℕ
  pub others : ℕ

abbrev pub empty_stretch : Stretch
empty_stretch = record { after = None; left_out = 0; others = 0 }

-- a stretch with one frame more, by its fate
abbrev pub with_fate : Fate → Stretch → Stretch
with_fate Both stretch = stretch
with_fate First stretch = stretch
with_fate SecondLeftOut stretch = stretch
with_fate FirstLeftOut stretch = record stretch { left_out = stretch.left_out + 1 }
with_fate Second stretch = record stretch { others = stretch.others + 1 }

abbrev pub with_front : Fate → List Stretch → List Stretch
with_front fate [] = []
with_front fate (stretch ∷ later) = with_fate fate stretch ∷ later

-- the first stretch comes after a frame of both with this count
abbrev pub begun_by : ℕ → List Stretch → List Stretch
begun_by count [] = []
begun_by count (stretch ∷ later) = record stretch { after = Some count } ∷ later

abbrev pub is_both : Fate → Bool
is_both fate = of_first fate && of_first (turned fate)

abbrev pub cut_at : Fated → List Stretch → List Stretch
cut_at item later =
    cond (is_both item.fate) (empty_stretch ∷ begun_by (count_of item.frame) later) (with_front item.fate later)

-- the stretches, cut at each frame of both
abbrev pub stretches : List Fated → List Stretch
stretches [] = empty_stretch ∷ []
stretches (item ∷ later) = cut_at item (stretches later)

-- As many frames as may have a damaged count or virtual channel where no frame has room. With an error control field none
-- is taken to have: a damaged frame is skipped.
abbrev pub few : TmFormat → ℕ
few format = cond format.fecf 0 8

-- the count follows the one before the stretch, if there are both
abbrev pub is_closed_by : Stretch → Option ℕ → Bool
is_closed_by stretch None = false
is_closed_by stretch (Some count) = follows_last stretch.after count

-- Frames may be left out of a stretch between two frames of both: no more than frames of the other alone stand in it; or
-- this many at most where the count of the second frame of both follows that of the first, so that no frame has room
-- between them.
abbrev pub is_fair : ℕ → Stretch → Option ℕ → Bool
is_fair most stretch count =
    nat_le stretch.left_out stretch.others || (nat_le stretch.left_out most && is_closed_by stretch count)

-- so of each stretch after the first frame of both, and none of the last one
abbrev pub are_fair_later : ℕ → List Stretch → Bool
are_fair_later most [] = true
are_fair_later most (stretch ∷ []) = stretch.left_out == 0
are_fair_later most (stretch ∷ next ∷ later) = is_fair most stretch next.after && are_fair_later most (next ∷ later)

-- none is left out before the first frame of both
abbrev pub are_fair : ℕ → List Stretch → Bool
are_fair most [] = true
are_fair most (stretch ∷ later) = (stretch.left_out == 0) && are_fair_later most later

-- Each frame of the first recording that is left out is a repeat, or lies in a stretch between two frames of both which
-- is fair to what is left out of it, repeats aside.
abbrev pub has_reasons : ℕ → List Fated → Bool
has_reasons most items = are_fair most (stretches (without_repeats [] items))

-- how many frames of the first recording are left out on a virtual channel, repeats aside
abbrev pub left_out_of : List Fated → ℕ
left_out_of items = count_by is_left_out (without_repeats [] items)

-- ---- frames that would stand twice

-- The payload of a frame: what follows the frame counts, up to the operational control field, or else the error control
-- field.
abbrev pub payload : TmFormat → List ℕ → List ℕ
payload format frame = take (field_len format frame + 2) (drop 4 frame)

-- whether a frame stands as one of the first recording alone
abbrev pub is_first_alone : Fate → Bool
is_first_alone fate = stands fate && not (of_first (turned fate))

-- whether these octets stand as a frame of the second recording alone
abbrev pub is_in_second : List ℕ → List Fated → Bool
is_in_second frame items = list_any (λ item. is_first_alone (turned item.fate) && bytes_eq item.frame frame) items

-- how many frames of the first recording that stand have this payload
abbrev pub times_kept : TmFormat → List ℕ → List Fated → ℕ
times_kept format octets items = count_by (λ item. is_kept item && bytes_eq (payload format item.frame) octets) items

-- whether a payload comes twice among the frames of a recording that stand
abbrev pub comes_twice : TmFormat → List ℕ → List Fated → Bool
comes_twice format octets items =
    nat_le 2 (times_kept format octets items) || nat_le 2 (times_kept format octets (exchanged items))

-- No octets stand both as a frame of the first alone and as one of the second alone, unless their payload comes twice in
-- one of the recordings, as that of an idle frame may.
abbrev pub stands_twice : List Fated → Fated → Bool
stands_twice items item = is_first_alone item.fate && is_in_second item.frame items

abbrev pub is_none_twice : TmFormat → List Fated → Bool
is_none_twice format items =
    list_all (λ item. not (stands_twice items item) || comes_twice format (payload format item.frame) items) items

-- ---- the merge

-- what a merge asks of the first recording on one virtual channel: no run is broken, and what is left out has a reason
abbrev pub keeps_first : ℕ → List Fated → Bool
keeps_first most items = is_unbroken None false items && has_reasons most items

-- what a merge asks of one virtual channel
abbrev pub is_merge_on : TmFormat → List Fated → Bool
is_merge_on format items =
    keeps_first (few format) items && (keeps_first (few format) (exchanged items) && is_none_twice format items)

-- The fates tell a merge of two recordings: they take all frames of both and no others, each frame that stands is read, and
-- each virtual channel is as it should be.
abbrev pub is_merge : TmFormat → ℕ → List ℕ → List ℕ → List Fate → Bool
is_merge format spacecraft one other fates =
    fits_both format.len one other fates && (are_read format spacecraft (taken_of format.len one other fates)
    && list_all (λ vc. is_merge_on format (on_channel format spacecraft vc (taken_of format.len one other fates)))
    virtual_channels)

-- The merged recording delivers on a virtual channel all packets that each recording delivers there without what is left
-- out, in their order, idle packets left out.
pub record LosesNoPacket (format : TmFormat) (spacecraft vc : ℕ) (one other : List ℕ) (fates : List Fate) : Type 0 where
  pub first :
      IsSublist (recorded_packets format spacecraft vc (first_kept format.len one other fates))
      (recorded_packets format spacecraft vc (merged_octets format.len one other fates))
  pub second :
      IsSublist (recorded_packets format spacecraft vc (second_kept format.len one other fates))
      (recorded_packets format spacecraft vc (merged_octets format.len one other fates))

-- Where no frame of a recording is left out on a virtual channel but repeats, the merged recording delivers there each
-- packet that the recording delivers, and where none is left out, all of them, in their order. Idle packets are left out.
pub record DeliversRecorded (format : TmFormat) (spacecraft vc : ℕ) (one other : List ℕ) (fates : List Fate) : Type 0 where
  pub first :
      left_out_of (on_channel format spacecraft vc (taken_of format.len one other fates)) ≡ 0
      → (packet : List ℕ) → IsAmong packet (recorded_packets format spacecraft vc one)
      → IsAmong packet (recorded_packets format spacecraft vc (merged_octets format.len one other fates))
  pub all_of_first :
      count_by is_left_out (on_channel format spacecraft vc (taken_of format.len one other fates)) ≡ 0
      → IsSublist (recorded_packets format spacecraft vc one)
      (recorded_packets format spacecraft vc (merged_octets format.len one other fates))
  pub second :
      left_out_of (on_channel format spacecraft vc (exchanged (taken_of format.len one other fates))) ≡ 0
      → (packet : List ℕ) → IsAmong packet (recorded_packets format spacecraft vc other)
      → IsAmong packet (recorded_packets format spacecraft vc (merged_octets format.len one other fates))
  pub all_of_second :
      count_by is_left_out (on_channel format spacecraft vc (exchanged (taken_of format.len one other fates))) ≡ 0
      → IsSublist (recorded_packets format spacecraft vc other)
      (recorded_packets format spacecraft vc (merged_octets format.len one other fates))
