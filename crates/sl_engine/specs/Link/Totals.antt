-- What an engine counted.
use Rattle.std.specs.Prelude.{ℕ, ◌≤◌}

pub record Counts : Type 0 where
  pub octets : ℕ
  pub frames : ℕ
  pub skipped : ℕ
  pub rest : ℕ
  pub packets : ℕ
  pub idle : ℕ
  pub anomalies : ℕ

-- no count is above the octets
pub record AreWithinOctets (c : Counts) : Type 0 where
  pub frames : c.frames ≤ c.octets
  pub skipped : c.skipped ≤ c.octets
  pub rest : c.rest ≤ c.octets
  pub packets : c.packets ≤ c.octets
  pub idle : c.idle ≤ c.octets
  pub anomalies : c.anomalies ≤ c.octets
