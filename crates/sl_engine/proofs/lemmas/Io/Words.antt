-- A line whose offset was added before the text.
use Rattle.std.proofs.Common.{◌≡◌, ℕ, List, ◌++◌, append_assoc}
use Rattle.std.specs.Prelude.{codes, decimal}
use Rattle.sl_engine.specs.Io.Words.{line_at}

pub line_after : (start text : List ℕ) (offset : ℕ) {old new : List ℕ} → old ≡ start ++ decimal offset → new ≡ old ++ (text ++ codes "\n") → new ≡ start ++ line_at offset text
line_after start text offset before added = rw (added, before) (simp append_assoc)
