-- `frames::reading_of` meets its contract.
use mathlib.Core.Path.{◌≡◌, refl}
use native.Mathlib.Omega.{arith}
use Rattle.frames.specs.Decoded.{fields_in}
use Rattle.frames.proofs.Laws.{unlisted_start, unlisted_enter, unlisted_radio, start_event, enter_event, wire_event, radio_event, move_event}
use Rattle.frames.proofs.Values.{station_read, wire_read, move_read}
use Rattle.frames.proofs.reading_of.Goals as goal

pub returns-then-kind-eq3 : goal.returns-then-kind-eq3
returns-then-kind-eq3 c =
    let a = c.args in
    let k = c.if-kind-eq3.true in
    λ l. wire_read a.f a.behind l _ _ k c.if_listed.ensures refl (wire_event (fields_in a.f) _ k)

pub returns-then-kind-eq4 : goal.returns-then-kind-eq4
returns-then-kind-eq4 c =
    let a = c.args in
    let k = c.if-kind-eq4.true in
    λ l. station_read a.f a.behind l _ _ (omega arith) (unlisted_radio (fields_in a.f) k) c.if_listed-then-kind-eq4.ensures refl
    (radio_event (fields_in a.f) _ k)

pub returns-then-kind-gt2 : goal.returns-then-kind-gt2
returns-then-kind-gt2 c =
    let a = c.args in
    let k : (fields_in a.f).kind ≡ 5 = omega (arith, c.if-kind-gt2.true, c.if-kind-eq3.false, c.if-kind-eq4.false, c.if-kind-gt5.false) in
    λ l. move_read a.f a.behind l _ _ k c.if_listed-then-kind-gt2.ensures refl (move_event (fields_in a.f) _ k)

pub returns-then-kind-eq1 : goal.returns-then-kind-eq1
returns-then-kind-eq1 c =
    let a = c.args in
    let k = c.if-kind-eq1.true in
    λ l. station_read a.f a.behind l _ _ (omega arith) (unlisted_enter (fields_in a.f) k) c.if_listed-then-kind-eq1.ensures refl
    (enter_event (fields_in a.f) _ k)

pub returns : goal.returns
returns c =
    let a = c.args in
    let few = c.if-kind-gt2.false in
    let two = c.if-kind-eq2.false in
    let one = c.if-kind-eq1.false in
    λ l. station_read a.f a.behind l _ _ (omega arith) (unlisted_start (fields_in a.f) (omega arith)) c.if_listed-2.ensures refl
    (start_event (fields_in a.f) _ (omega arith))
