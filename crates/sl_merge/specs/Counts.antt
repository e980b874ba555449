-- How many frames of two recordings have which fate.
use Rattle.std.specs.Prelude.{ℕ, ◌-◌, ◌&&◌, List, map, is_none}
use Rattle.std.specs.List.{count_by, sum}
use Rattle.sl_tmframe.specs.TmFrame.{TmFormat}
use Rattle.sl_tmflow.specs.Recording.{virtual_channels}
use Rattle.sl_merge.specs.declared.counts.FateCounts.{FateCounts}
use Rattle.sl_merge.specs.declared.counts.LeftOut.{LeftOut}
use Rattle.sl_merge.specs.Fates.{Fated, exchanged}
use Rattle.sl_merge.specs.Merge.{is_both, is_first_alone, is_left_out, left_out_of, on_channel, vc_of}

-- how many repeats the first recording has on a channel
abbrev pub repeats_of : List Fated → ℕ
repeats_of items = count_by is_left_out items - left_out_of items

-- a number of each virtual channel, summed up
abbrev pub over_channels : TmFormat → ℕ → (List Fated → ℕ) → List Fated → ℕ
over_channels format spacecraft number items =
    sum (map (λ vc. number (on_channel format spacecraft vc items)) virtual_channels)

-- what is left out of the first recording: skipped frames, repeats, and those of stretches
abbrev pub left_out_first : TmFormat → ℕ → List Fated → LeftOut
left_out_first format spacecraft items =
    record {
      skipped = count_by (λ item. is_left_out item && is_none (vc_of format spacecraft item.frame)) items;
      repeats = over_channels format spacecraft repeats_of items;
      stretches = over_channels format spacecraft left_out_of items;
    }

-- the numbers of all fates
abbrev pub fate_counts : TmFormat → ℕ → List Fated → FateCounts
fate_counts format spacecraft items =
    record {
      both = count_by (λ item. is_both item.fate) items;
      first = count_by (λ item. is_first_alone item.fate) items;
      second = count_by (λ item. is_first_alone item.fate) (exchanged items);
      first_left_out = left_out_first format spacecraft items;
      second_left_out = left_out_first format spacecraft (exchanged items);
    }
