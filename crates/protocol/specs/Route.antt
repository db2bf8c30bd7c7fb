-- THE ROUTE MUST NOT MATTER: "Customers ask whether a cart that wandered all morning ends up with another axis than one that stood still." What two
-- runs have in common in which "each station makes the same accepted sends (set or members, and text) in the same order".
use Rattle.std.specs.Prelude.{Bool, true, false, cond, ◌&&◌, not, List, [], ◌∷◌, ◌++◌, ℕ, eqb}
use Rattle.protocol.specs.Floor.{Limits, Floor}
use Rattle.protocol.specs.Events.{Event, start, enter, send, wire, radio, move, flag, group, send_group, send_long, retire, Answer, refused, accepted}
use Rattle.protocol.specs.Groups.{as_sent}
use Rattle.protocol.specs.Step.{step, answer}

-- an accepted send: its set and its text
pub record Sending : Type 0 where
  pub set : ℕ
  pub text : List ℕ

-- what an event and its answer add to the accepted sends of station u. A group send and a long send come here as the sends that they were (`as_sent`), so
-- the arms of their own add nothing
abbrev pub sending_of : ℕ → Event → Answer → List Sending
sending_of u (start n k) a = []
sending_of u (enter t c) a = []
sending_of u (send s set text) (refused r) = []
sending_of u (send s set text) (accepted l) = cond (eqb u s) (record { set = set; text = text } ∷ []) []
sending_of u (wire i j) a = []
sending_of u (radio t c buffer) a = []
sending_of u (move c to) a = []
sending_of u (flag c b) a = []
sending_of u (group g set) a = []
sending_of u (send_group s g text) a = []
sending_of u (send_long s set text) a = []
sending_of u (retire c) a = []

-- "accepted sends (set or members, and text) in the same order": those of station u over a list of events, from a floor
unfoldable pub sendings_of : Limits → Floor → List Event → ℕ → List Sending
sendings_of M F [] u = []
sendings_of M F (e ∷ es) u = sending_of u (as_sent F e) (answer M F e) ++ sendings_of M (step M F e) es u

-- is it an accepted retirement
abbrev pub is_retirement : Event → Answer → Bool
is_retirement (start n k) a = false
is_retirement (enter t c) a = false
is_retirement (send s set text) a = false
is_retirement (wire i j) a = false
is_retirement (radio t c buffer) a = false
is_retirement (move c to) a = false
is_retirement (flag c b) a = false
is_retirement (group g set) a = false
is_retirement (send_group s g text) a = false
is_retirement (send_long s set text) a = false
is_retirement (retire c) (refused r) = false
is_retirement (retire c) (accepted l) = true

-- "runs without retirement": a list of events of which none is one, from a floor
unfoldable pub retires_none : Limits → Floor → List Event → Bool
retires_none M F [] = true
retires_none M F (e ∷ es) = not (is_retirement e (answer M F e)) && retires_none M (step M F e) es
