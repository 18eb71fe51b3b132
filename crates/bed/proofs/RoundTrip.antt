-- The round trip, both ways (specs/RoundTrip).
use Rattle.bed.specs.RoundTrip.{BedRoundTrip}
use Rattle.bed.proofs.RoundLaws.{text_said, written_back, read_back}

pub bed_round_trip : BedRoundTrip
bed_round_trip = record { says = text_said; back = written_back; there = read_back }
