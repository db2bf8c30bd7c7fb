-- WHAT A MOVE LEAVES in the carts (C, then C') and on the lines (W, then W').
use Rattle.std.specs.Prelude.{◌≡◌, true, List, ℕ, ◌+◌, ◌*◌, length}
use Rattle.protocol.specs.Folds.{update}
use Rattle.protocol.specs.Floor.{leaving}
use Rattle.carts.specs.View.{carts_in, canonical_in, with_place}
use Rattle.lines.specs.Post.{Pushed}
use Rattle.view.specs.Records.{words_of}

-- cart c is leaving the old station, and its deregister is on the line to that
pub record Moved (C C' W W' : List ℕ) (c old to : ℕ) : Type 0 where
  pub carts : carts_in C' ≡ with_place (carts_in C) c (leaving old to)
  pub canonical : canonical_in C' ≡ update (canonical_in C) c true
  pub length : length C' ≡ length C
  pub lines : Pushed W W' (to * 16 + old) (words_of 4 c 0 0)
