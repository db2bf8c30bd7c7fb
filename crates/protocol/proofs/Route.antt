-- The first list of a station and a cart is made of the station's accepted sends alone, so the way of a cart does not matter to it: each send.
use mathlib.Core.Path.{◌≡◌}
use mathlib.Core.Bool.{cond}
use mathlib.Core.List.{◌++◌, List, [], ◌∷◌, append_assoc}
use Prim.Native.Nat.{suc, ℕ}
use lib.Dec.{eqb}
use borrow.Author.Tests.{eqb-true}
use Rattle.protocol.specs.CartSets.{has}
use Rattle.protocol.specs.Events.{Report, accepted, send}
use Rattle.protocol.specs.TwoLists.{Item, Lists, item, lists_step}
use Rattle.protocol.specs.Route.{Sending, sending_of}
use Rattle.protocol.proofs.Tests.{by_test}

-- those of the sends that name cart c, numbered from k
abbrev pub listed : ℕ → ℕ → List Sending → List Item
listed c k [] = []
listed c k (x ∷ l) = cond (has x.set c) (item k x.text ∷ listed c (suc k) l) (listed c (suc k) l)

-- an accepted send adds to the first list what it adds to the station's sends
pub send_adds : (s set : ℕ) (text : List ℕ) (l : Report) (L : Lists) (u c : ℕ) (rest : List Sending)
    → (lists_step (send s set text) (accepted l) L).sent u c ++ listed c ((lists_step (send s set text) (accepted l) L).count u) rest
    ≡ L.sent u c ++ listed c (L.count u) (sending_of u (send s set text) (accepted l) ++ rest)
send_adds s set text l L u c rest =
    by_test (eqb u s)
    (λ e. let z = eqb-true u s e in
    by_test (has set c)
    (λ h. rw (e, h, z) (append_assoc (L.sent s c) (item (L.count s) text ∷ []) (listed c (suc (L.count s)) rest)))
    (λ h. rw (e, h, z)))
    (λ e. rw e)
