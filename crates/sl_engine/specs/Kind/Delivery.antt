-- What frames of a kind deliver, one after another: the packets that end in each frame, each on a
-- channel. All of it is said of TM and TC frames at once.
use Rattle.std.specs.Prelude.{◌≡◌, ◌≢◌, ℕ, ◌+◌, ◌<◌, ◌≤◌, ◌⊎◌, Bool, List, [], ◌∷◌, ◌++◌, length, map, Result, Ok, Err}
use Rattle.std.specs.List.{concat, range_with_len, slice_index_or, slice_set}
use Rattle.sl_packet.specs.Delivered.{channel_count}
use Rattle.sl_packet.specs.Packets.{only_idle, without_idle}
use Rattle.sl_packet.specs.Sink.{TakesAll}
use Rattle.sl_engine.specs.declared.tally.FrameReport.{FrameReport}
use Rattle.sl_engine.specs.Link.Totals.{Counts}
use Rattle.sl_engine.specs.Tally.{counts_so_far, counts_with, skipped_in}

-- A kind of frames, under managed parameters.
pub record Kind : Type 0 where
  -- the frames of a recording
  pub frames_of : List ℕ → List (List ℕ)
  -- whether a frame is skipped
  pub is_skipped : List ℕ → Bool
  -- the numbers of the channels, and how many there are
  pub channels : List ℕ
  pub channel_limit : ℕ
  -- the channel of the packets that end in a frame
  pub channel : List ℕ → ℕ
  -- the packets that end in a frame that comes after others, idle ones included
  pub packets_ended_by : List (List ℕ) → List ℕ → List (List ℕ)
  -- the packets that frames deliver on a channel, idle ones included
  pub packets : List (List ℕ) → ℕ → List (List ℕ)

-- the frames that were read, and then the next one, unless it is skipped
abbrev pub with_frame : {View Skip : Type 0} → List View → Result View Skip → List View
with_frame views (Ok view) = views ++ view ∷ []
with_frame views (Err reason) = views

-- ---- what is counted

-- how many items all lists have together
abbrev pub count_of : {X : Type 0} → List (List X) → ℕ
count_of [] = 0
count_of (items ∷ lists) = length items + count_of lists

-- the packets that frames deliver on each channel, idle packets left out
abbrev pub delivered_packets : Kind → List (List ℕ) → List (List (List ℕ))
delivered_packets k frames = map (λ channel. without_idle (k.packets frames channel)) k.channels

-- the packets that a recording delivers on each channel, idle packets left out
abbrev pub packets_by_channel : Kind → List ℕ → List (List (List ℕ))
packets_by_channel k recording = delivered_packets k (k.frames_of recording)

-- the number of packets that frames deliver, idle packets left out
abbrev pub number_of_packets : Kind → List (List ℕ) → ℕ
number_of_packets k frames = count_of (delivered_packets k frames)

-- the number of idle packets that frames deliver
abbrev pub number_of_idle : Kind → List (List ℕ) → ℕ
number_of_idle k frames = count_of (map (λ channel. only_idle (k.packets frames channel)) k.channels)

-- what is counted in frames, and in a remainder of this many octets
abbrev pub counts_in : Kind → List (List ℕ) → ℕ → Counts
counts_in k frames remainder =
    counts_with (length (concat frames) + remainder) (length frames) (skipped_in k.is_skipped frames) remainder
    (number_of_packets k frames) (number_of_idle k frames) 0

-- ---- what holds of a kind

-- A frame adds the packets that end in it to those of its channel, and none to another's.
pub record AddsByChannel (k : Kind) : Type 0 where
  pub none : (channel : ℕ) → k.packets [] channel ≡ []
  pub own : (frames : List (List ℕ)) (frame : List ℕ) → k.packets (frames ++ frame ∷ []) (k.channel frame)
      ≡ k.packets frames (k.channel frame) ++ k.packets_ended_by frames frame
  pub other : (frames : List (List ℕ)) (frame : List ℕ) (channel : ℕ) → k.channel frame ≢ channel
      → k.packets (frames ++ frame ∷ []) channel ≡ k.packets frames channel
  pub inside : (frame : List ℕ) → k.channel frame < k.channel_limit
  pub few : k.channel_limit ≤ channel_count
  pub all : k.channels ≡ range_with_len 0 k.channel_limit

-- ---- while frames are processed. Contracts of private functions alone cite this section.

-- The kind adds packets by channel, and the frames deliver at most as many packets, idle ones included, as they have
-- octets.
pub record IsWithin (k : Kind) (frames : List (List ℕ)) : Type 0 where
  pub adds : AddsByChannel k
  pub within : number_of_packets k frames + number_of_idle k frames ≤ length (concat frames)

-- the report on a frame that comes after these frames
pub record IsFrameReport (k : Kind) (before : List (List ℕ)) (frame : List ℕ) (report : FrameReport) : Type 0 where
  pub skipped : report.is_skipped ≡ k.is_skipped frame
  pub packets : report.packets ≡ length (without_idle (k.packets_ended_by before frame))
  pub idle : report.idle ≡ length (only_idle (k.packets_ended_by before frame))

-- What a frame brings: a report on it. The frame has five octets or more, as each frame that a framer cuts. So it has
-- more octets than `check` has lines for it.
pub record Brings (k : Kind) (before : List (List ℕ)) (frame : List ℕ) (report : FrameReport) : Type 0 where
  pub some : 5 ≤ length frame
  pub reported : IsFrameReport k before frame report

-- the packets of a frame were handed over, idle packets left out
pub record Delivers {S : Type 0} (taking : S → ℕ → List ℕ → S → Type 0) (k : Kind) (before : List (List ℕ))
    (frame : List ℕ) (old : S) (report : FrameReport) (new : S) : Type 0 where
  pub accepted : TakesAll taking old (k.channel frame) (without_idle (k.packets_ended_by before frame)) new
  pub brings : Brings k before frame report

-- These frames were processed (`had` holds of them: the state is the one after them), and these are their counts, with
-- this number of anomalies. Anomalies and frames together are no more than the octets of the frames: after the last
-- one `check` has at most as many lines of what is incomplete as there are frames, and the count still fits.
pub record HasDelivered (k : Kind) (had : List (List ℕ) → Type 0) (frames : List (List ℕ)) (anomalies : ℕ)
    (t : Counts) : Type 0 where
  pub processed : had frames
  pub counts : t ≡ counts_so_far k.is_skipped frames (number_of_packets k frames) (number_of_idle k frames) anomalies
  pub few : anomalies + length frames ≤ length (concat frames)

-- ---- packets that are stored

-- the lists with packets added to that of a channel
abbrev pub with_packets : List (List (List ℕ)) → ℕ → List (List ℕ) → List (List (List ℕ))
with_packets lists channel packets = slice_set lists channel (slice_index_or lists channel [] ++ packets)

-- each list has the packets of its channel, idle packets left out, and the lists past the last channel have none
pub record AreStored (k : Kind) (frames : List (List ℕ)) (lists : List (List (List ℕ))) : Type 0 where
  pub size : length lists ≡ channel_count
  pub each : (channel : ℕ) → channel < k.channel_limit
      → slice_index_or lists channel [] ≡ without_idle (k.packets frames channel)
  pub none_past : (channel : ℕ) → k.channel_limit ≤ channel → slice_index_or lists channel [] ≡ []

-- Memory may be refused at the last of these frames where packets are stored, as `normalise`, `same` and `compare` do:
-- for what is incomplete before or after it, or since packets of any of these frames are stored.
abbrev pub MayRefuseStoreMemory : Kind → (List (List ℕ) → Type 0) → List (List ℕ) → Type 0
MayRefuseStoreMemory k is_incomplete_at_last frames = is_incomplete_at_last frames ⊎ (0 < number_of_packets k frames)
