-- Worked examples. The frames have 12 octets: no definition here asks for more.
use Rattle.std.proofs.Common.{◌≡◌, ◌+◌, ◌*◌, ◌++◌, List, ℕ, Bool, true, false, None, [], ◌∷◌, refl}
use Rattle.sl_fields.specs.Fecf.{fecf_of, register_of}
use Rattle.sl_tmframe.specs.TmFrame.{TmFormat}
use Rattle.sl_merge.specs.declared.fate.Fate.{Fate}
use Rattle.sl_merge.specs.declared.fate.Fate.TheVariants.{Both, First, FirstLeftOut, Second, SecondLeftOut}
use Rattle.sl_merge.specs.Merge.{is_merge, payload, vc_of}
use Rattle.sl_merge.specs.Fates.{first_kept, merged_octets, second_kept}

-- frames of spacecraft 1 without an error control field, on a virtual channel 0 to 7, with a count and one octet that differs
abbrev frame : ℕ → ℕ → ℕ → List ℕ
frame vc count octet = 0 ∷ (16 + 2 * vc) ∷ 0 ∷ count ∷ 0 ∷ 0 ∷ octet ∷ 0 ∷ 0 ∷ 0 ∷ 0 ∷ 0 ∷ []

abbrev format : TmFormat
format = record { len = 12; fecf = false }

-- frames of virtual channel 0
abbrev a : List ℕ
a = frame 0 0 1

abbrev b : List ℕ
b = frame 0 1 2

abbrev c : List ℕ
c = frame 0 2 3

abbrev d : List ℕ
d = frame 0 3 4

-- one of virtual channel 1, with the count of `b`, and a damaged one
abbrev e : List ℕ
e = frame 1 1 5

abbrev damaged : List ℕ
damaged = 64 ∷ 16 ∷ 0 ∷ 7 ∷ 0 ∷ 0 ∷ 0 ∷ 0 ∷ 0 ∷ 0 ∷ 0 ∷ 0 ∷ []

abbrev merges : List ℕ → List ℕ → List Fate → Bool
merges one other fates = is_merge format 1 one other fates

-- the same of frames with an error control field, and such frames: the last two octets are the field
abbrev checked : List ℕ → List ℕ → List Fate → Bool
checked one other fates = is_merge (record { len = 12; fecf = true }) 1 one other fates

abbrev right : ℕ → ℕ → ℕ → ℕ → List ℕ
right count octet high low = 0 ∷ 16 ∷ 0 ∷ count ∷ 0 ∷ 0 ∷ octet ∷ 0 ∷ 0 ∷ 0 ∷ high ∷ low ∷ []

abbrev right_a : List ℕ
right_a = right 0 1 196 115

abbrev right_b : List ℕ
right_b = right 1 2 231 206

abbrev right_c : List ℕ
right_c = right 2 3 73 248

abbrev right_d : List ℕ
right_d = right 3 4 160 180

-- eight frames whose counts don't go on from `a`, and that they are left out
abbrev eight : List ℕ
eight =
    frame 0 10 9 ++ frame 0 11 9 ++ frame 0 12 9 ++ frame 0 13 9 ++ frame 0 14 9 ++ frame 0 15 9 ++ frame 0 16 9
    ++ frame 0 17 9

abbrev without_eight : List Fate → List Fate
without_eight later =
    FirstLeftOut ∷ FirstLeftOut ∷ FirstLeftOut ∷ FirstLeftOut ∷ FirstLeftOut ∷ FirstLeftOut ∷ FirstLeftOut ∷ FirstLeftOut
    ∷ later

record Facts : Type 0 where
  -- each lost one frame of the channel
  lost_one : merges (a ++ b ++ d) (a ++ c ++ d) (Both ∷ First ∷ Second ∷ Both ∷ []) ≡ true
  merged : merged_octets 12 (a ++ b ++ d) (a ++ c ++ d) (Both ∷ First ∷ Second ∷ Both ∷ []) ≡ a ++ b ++ c ++ d
  -- in the other order a run of the first is broken
  broken : merges (a ++ b ++ d) (a ++ c ++ d) (Both ∷ Second ∷ First ∷ Both ∷ []) ≡ false
  -- a frame of another channel may stand there
  other_channel : merges (a ++ b) (a ++ e) (Both ∷ Second ∷ First ∷ []) ≡ true
  -- a frame isn't taken for another one, none may be left over, and none may be missing
  differ : merges a b (Both ∷ []) ≡ false
  left_over : merges (a ++ b) a (Both ∷ []) ≡ false
  missing : merges a a (Both ∷ First ∷ []) ≡ false
  -- one recording behind the other
  behind : merges (a ++ b) (a ++ b) (First ∷ First ∷ Second ∷ Second ∷ []) ≡ false
  -- the first one alone
  alone : merges (a ++ b) (c ++ d) (First ∷ First ∷ SecondLeftOut ∷ SecondLeftOut ∷ []) ≡ false
  -- a frame that was recorded twice in a row
  repeated : merges (a ++ b ++ b) (a ++ b) (Both ∷ Both ∷ FirstLeftOut ∷ []) ≡ true
  not_repeated : merges (a ++ b ++ c) (a ++ b) (Both ∷ Both ∷ FirstLeftOut ∷ []) ≡ false
  -- between two frames of both as many may be left out as stand of the other
  for_others : merges (a ++ b ++ d) (a ++ c ++ d) (Both ∷ FirstLeftOut ∷ Second ∷ Both ∷ []) ≡ true
  for_none : merges (a ++ b ++ d) (a ++ d) (Both ∷ FirstLeftOut ∷ Both ∷ []) ≡ false
  -- up to eight frames without room may have a damaged count where they have no error control field
  damaged_count : merges (a ++ d ++ b) (a ++ b) (Both ∷ FirstLeftOut ∷ Both ∷ []) ≡ true
  eight_counts : merges (a ++ eight ++ b) (a ++ b) (Both ∷ without_eight (Both ∷ [])) ≡ true
  nine_counts : merges (a ++ d ++ eight ++ b) (a ++ b) (Both ∷ FirstLeftOut ∷ without_eight (Both ∷ [])) ≡ false
  -- with the field none is left out there; these frames are read, and may be left out for others
  right_count : checked (right_a ++ right_d ++ right_b) (right_a ++ right_b) (Both ∷ FirstLeftOut ∷ Both ∷ []) ≡ false
  right_frames : checked (right_a ++ right_b ++ right_d) (right_a ++ right_b) (Both ∷ Both ∷ First ∷ []) ≡ true
  right_for_others :
      checked (right_a ++ right_b ++ right_d) (right_a ++ right_c ++ right_d) (Both ∷ FirstLeftOut ∷ Second ∷ Both ∷ []) ≡ true
  kept : first_kept 12 (a ++ b ++ d) (a ++ c ++ d) (Both ∷ FirstLeftOut ∷ Second ∷ Both ∷ []) ≡ a ++ d
  kept_of_second : second_kept 12 (a ++ b ++ d) (a ++ c ++ d) (Both ∷ FirstLeftOut ∷ Second ∷ Both ∷ []) ≡ a ++ c ++ d
  -- a damaged frame stands nowhere, and is on no channel; what follows the last frame belongs to no merge
  skipped : vc_of format 1 damaged ≡ None
  stands : merges damaged [] (First ∷ []) ≡ false
  out : merges (a ++ damaged ++ b ++ 1 ∷ []) (a ++ b) (Both ∷ FirstLeftOut ∷ Both ∷ []) ≡ true
  -- the payload is what follows the counts
  octets : payload format e ≡ 0 ∷ 0 ∷ 5 ∷ 0 ∷ 0 ∷ 0 ∷ 0 ∷ 0 ∷ []
  -- equal frames stand once of each where their payload comes twice, as that of idle frames
  idle : merges (frame 0 0 0 ++ frame 0 1 0 ++ a) (a ++ frame 0 0 0) (First ∷ First ∷ Both ∷ Second ∷ []) ≡ true

facts : Facts
unfolding fecf_of register_of
facts =
    record {
      lost_one = refl;
      merged = refl;
      broken = refl;
      other_channel = refl;
      differ = refl;
      left_over = refl;
      missing = refl;
      behind = refl;
      alone = refl;
      repeated = refl;
      not_repeated = refl;
      for_others = refl;
      for_none = refl;
      damaged_count = refl;
      eight_counts = refl;
      nine_counts = refl;
      right_count = refl;
      right_frames = refl;
      right_for_others = refl;
      kept = refl;
      kept_of_second = refl;
      skipped = refl;
      stands = refl;
      out = refl;
      octets = refl;
      idle = refl;
    }
