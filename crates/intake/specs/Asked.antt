-- What functions of this crate ask of their callers.
use Rattle.std.specs.Prelude.{ℕ, ◌≤◌, List, length}
use Rattle.layout.specs.Grid.{header_bytes}
use Rattle.layout.specs.Ranges.{Ranged}
use Rattle.layout.specs.declared.Frame.{Frame}

-- the columns of a frame are judged in bytes that have the headers before them
pub record ColumnsAsked (s : List ℕ) (f : Frame) : Type 0 where
  pub headers : header_bytes ≤ length s
  pub grid : Ranged f.grid
