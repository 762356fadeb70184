-- What a writer puts into its space.
use Rattle.std.specs.Prelude.{◌≡◌, ℕ, ◌+◌, ◌≤◌, List, length}
use Rattle.messages.specs.InWords.{put_at}
use Rattle.messages.specs.declared.writer.Writer.{Writer}

-- n words more have room
abbrev pub Room : Writer → ℕ → Type 0
Room w n = w.at + n ≤ length w.space.now

-- words were put behind those that were written
pub record Put (v w : Writer) (ws : List ℕ) : Type 0 where
  pub next : w.at ≡ v.at + length ws
  pub wrote : w.space.now ≡ put_at v.at ws v.space.now
  pub same : w.space.ghost_name ≡ v.space.ghost_name
