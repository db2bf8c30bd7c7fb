-- THE ORDER ON ONE LINE: its multicasts count up from the expected number, and no delete stands before its multicast.
use mathlib.Core.Path.{refl, ◌≡◌}
use mathlib.Core.List.{List, [], ◌∷◌, map}
use Prim.Native.Nat.{ℕ, suc}
use borrow.Author.Tests.{eqb-true, eq-eqb, ltb-true, lt-ltb}
use Rattle.protocol.specs.Claims.{True}
use Rattle.protocol.specs.Form.{multicast_numbers, counts_up, deletes_follow}
use Rattle.form_lines.specs.Said.{Said, a_multicast, an_ack_list, a_delete, a_deregister, a_register, unknown}
use Rattle.form_lines.proofs.Split.{walk_next, GoodNext}
use Rattle.form_lines.proofs.Reading.{read}

module _ (carried : ℕ → ℕ → ℕ) where
  pub order_of : (e t : ℕ) (l : List Said) → GoodNext e l → walk_next e l ≡ t → True (counts_up e (multicast_numbers (map (read carried) l)) t) × True (deletes_follow e (map (read carried) l))
  order_of e t [] g h = (h, refl)
  order_of e t (a_multicast m n ∷ l) g h = let z = order_of (suc e) t l g.1 h in ((eqb-true n e g.0, z.0), z.1)
  order_of e t (an_ack_list m n x ∷ l) g h = order_of e t l g.1 h
  order_of e t (a_delete m n ∷ l) g h = let z = order_of e t l g.1 h in (z.0, (ltb-true n e g.0, z.1))
  order_of e t (a_deregister c ∷ l) g h = order_of e t l g.1 h
  order_of e t (a_register c ∷ l) g h = order_of e t l g.1 h
  order_of e t (unknown c ∷ l) g h = order_of e t l g.1 h

  pub of_order : (e t : ℕ) (l : List Said) → True (counts_up e (multicast_numbers (map (read carried) l)) t) → True (deletes_follow e (map (read carried) l)) → GoodNext e l × (walk_next e l ≡ t)
  of_order e t [] u d = (tt, u)
  of_order e t (a_multicast m n ∷ l) u d = let z = of_order (suc e) t l u.1 d in ((eq-eqb n e u.0, z.0), z.1)
  of_order e t (an_ack_list m n x ∷ l) u d = let z = of_order e t l u d in ((refl, z.0), z.1)
  of_order e t (a_delete m n ∷ l) u d = let z = of_order e t l u d.1 in ((lt-ltb n e d.0, z.0), z.1)
  of_order e t (a_deregister c ∷ l) u d = let z = of_order e t l u d in ((refl, z.0), z.1)
  of_order e t (a_register c ∷ l) u d = let z = of_order e t l u d in ((refl, z.0), z.1)
  of_order e t (unknown c ∷ l) u d = let z = of_order e t l u d in ((refl, z.0), z.1)
