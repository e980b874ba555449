-- A packet as `packets` lists it (CCSDS 133.0-B): the fields of its primary header, how many octets
-- it has, and these in hexadecimal. The listing of frames by such lines.
use Rattle.std.specs.Prelude.{ℕ, List, [], ◌++◌, length, take, codes, decimal}
use Rattle.hex.specs.Hex.{encode_lower}
use Rattle.sl_fields.specs.Field.{bit_of}
use Rattle.sl_fields.specs.PacketHeader.{PacketFields, packet_header}
use Rattle.sl_engine.specs.Kind.Delivery.{Kind, counts_in}
use Rattle.sl_engine.specs.Verbs.Listing.{Listing}

-- the other fields of the primary header that the line names, in its order
abbrev pub other_fields_text : PacketFields → List ℕ
other_fields_text h = codes " secondary " ++ decimal (bit_of h.secondary) ++ codes " flags " ++ decimal h.flags
    ++ codes " count " ++ decimal h.count

-- those of few bits, and the packet type before them, with the name of the count
abbrev pub header_bits_text : PacketFields → List ℕ
header_bits_text h =
    codes " type " ++ decimal h.kind ++ codes " secondary " ++ decimal (bit_of h.secondary) ++ codes " flags "
    ++ decimal h.flags ++ codes " count "

-- all fields of the primary header
abbrev pub header_text : PacketFields → List ℕ
header_text h = codes " apid " ++ decimal h.apid ++ codes " type " ++ decimal h.kind ++ other_fields_text h

-- how many octets there are
abbrev pub size_text : ℕ → List ℕ
size_text octets = codes " octets " ++ decimal octets ++ codes " "

-- the header, and how many octets there are
abbrev pub fields_text : List ℕ → List ℕ
fields_text packet = header_text (packet_header (take 6 packet)) ++ size_text (length packet)

-- what follows the channel
abbrev pub packet_text : List ℕ → List ℕ
packet_text packet = fields_text packet ++ encode_lower packet ++ codes "\n"

-- the whole line, which begins with the name of the channel
abbrev pub packet_line : List ℕ → List ℕ → List ℕ
packet_line channel packet = channel ++ packet_text packet

-- the listing of frames of a kind with these lines
abbrev pub packets_listing : Kind → (List (List ℕ) → List ℕ → List ℕ) → Listing
packets_listing k lines = record { lines = lines; last = λ frames remainder. []; counts = counts_in k }
