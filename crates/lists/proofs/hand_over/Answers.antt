-- `lists::hand_over` meets its contract.
use mathlib.Core.Path.{refl, ap, ◌∙◌}
use mathlib.Core.List.{◌++◌}
use Prim.Native.Nat.{ℕ}
use native.Mathlib.Omega.{arith}
use lib.ListN.{take, drop}
use Rattle.list_rows.specs.Rows.{part_in}
use Rattle.lists.proofs.hand_over.Goals as goal

pub copy_text-requires : goal.copy_text-requires
copy_text-requires c = (omega (arith, c.requires.3), omega (arith, c.requires.5, c.size_at-size.ensures c.args.octets.now))

pub returns : goal.returns
returns c =
    let a = c.args in
    let size = c.size_at-size.ensures a.octets.now in
    let crossed = c.cross_out.ensures in
    record {
      value = size;
      counts_after = refl;
      octets_after = crossed.by_index a.octets.now;
      sends_len_unchanged = crossed.sends_len_unchanged;
      buffer_after = c.copy_text.ensures.buffer_after ∙ ap (λ (n : ℕ). take n (part_in a.octets.now a.row) ++ drop n a.buffer.now) size;
    }
