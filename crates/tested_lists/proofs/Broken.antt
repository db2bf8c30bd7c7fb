-- CALLS ON LISTS THAT FAIL THE FORM TEST, and lists that passed it.
use mathlib.Core.Path.{◌≡◌}
use mathlib.Core.Bool.{true, false}
use mathlib.Core.List.{List}
use Prim.Native.Nat.{ℕ, ◌≤◌, ◌<◌}
use lib.ListN.{length}
use borrow.Author.Tests.{lt-ltb, le-ltb}
use Rattle.protocol.specs.Floor.{limits}
use Rattle.protocol.specs.PlainLists.{plain_send, plain_passes, plain_refusal}
use Rattle.list_rows.specs.Rows.{text_room}
use Rattle.std.specs.Prelude.{Err}
use Rattle.refusals.specs.declared.Refusal.TheVariants.{WrongLength, NotReady}
use Rattle.lists.specs.View.{LentLists, lists_in}
use Rattle.lists.specs.Calls.{ListsMet, ListsHanded, ListsReady}
use Rattle.lists.proofs.Facts.{lengths_pass, of_lengths}
use Rattle.lists.proofs.Checks.{refused_met}
use Rattle.lists.proofs.TakeLaws.{refused_handed}
use Rattle.lists.proofs.Readies.{passing_ready}

module _ (L : LentLists) where
  -- 4, before the lists are looked at
  pub long_send : (s set : ℕ) (text : List ℕ) → text_room < length text → ListsMet L L (plain_send s set text) (Err WrongLength)
  unfolding plain_refusal
  long_send s set text h = refused_met L (plain_send s set text) WrongLength (rw (lt-ltb text_room (length text) h))

  -- 5
  pub broken_send : (s set : ℕ) (text : List ℕ) → length text ≤ text_room → plain_passes limits (lists_in L) ≡ false → ListsMet L L (plain_send s set text) (Err NotReady)
  unfolding plain_refusal
  broken_send s set text h broken = refused_met L (plain_send s set text) NotReady (rw (le-ltb text_room (length text) h, broken))

  pub broken_take : (s c : ℕ) (buffer : List ℕ) → plain_passes limits (lists_in L) ≡ false → ListsHanded L L s c (Err NotReady) buffer buffer
  unfolding plain_refusal
  broken_take s c buffer broken = refused_handed L s c NotReady buffer (rw broken)

  -- lists that passed are ready
  pub tested_ready : plain_passes limits (lists_in L) ≡ true → ListsReady L
  tested_ready h = passing_ready L (of_lengths L (lengths_pass L h)) h
