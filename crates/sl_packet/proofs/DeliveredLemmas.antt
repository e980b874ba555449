-- The lists of a store after packets were added.
use Rattle.std.proofs.Common.{◌≡◌, ℕ, List, [], length, get_or}
use Rattle.std.proofs.lemmas.List.{length-replicate}
use Rattle.sl_packet.specs.Delivered.{channel_count, empty_lists}
use Rattle.sl_packet.proofs.Filling.{get_or_replicate}

-- a store without packets has a list for each channel
pub length-empty_lists : length empty_lists ≡ channel_count
unfolding empty_lists
length-empty_lists = length-replicate {A = List (List ℕ)} channel_count []

pub list_at-empty_lists : (channel : ℕ) → get_or empty_lists channel [] ≡ []
unfolding empty_lists
list_at-empty_lists channel = get_or_replicate channel_count channel []
