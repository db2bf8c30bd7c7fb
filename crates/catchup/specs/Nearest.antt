-- CATCH-UP WITHOUT A TURN FOR EACH NUMBER: where 01's loop stops is the nearest of the buffered messages whose copy names the cart.
use Rattle.std.specs.Prelude.{Bool, cond, ◌&&◌, ℕ, zero, suc, ◌+◌, ◌-◌, eqb, ltb, leb}
use Rattle.std.proofs.Math.Option.{Option, none, some}
use Rattle.protocol.specs.CartSets.{has}
use Rattle.protocol.specs.Folds.{by_option}
use Rattle.protocol.specs.Floor.{Floor, is_held, is_buffered}
use Rattle.protocol.specs.Handoff.{Stop}

-- would the message in room m stop cart c at station t, on its way up from x among the numbers of initiator s
unfoldable pub would_stop : Floor → ℕ → ℕ → ℕ → ℕ → ℕ → Bool
would_stop F t c s x m = is_held F m && (eqb (F.initiator m) s && (is_buffered F m t && (has (F.copy m t) c && leb x (F.number m))))

-- the nearest once room m is looked at too
abbrev pub nearer_with : Floor → ℕ → ℕ → ℕ → ℕ → ℕ → Option ℕ → Option ℕ
nearer_with F t c s x m none = cond (would_stop F t c s x m) (some m) none
nearer_with F t c s x m (some k) = cond (would_stop F t c s x m && ltb (F.number m) (F.number k)) (some m) (some k)

-- the nearest among the first rooms
unfoldable pub nearest_among : Floor → ℕ → ℕ → ℕ → ℕ → ℕ → Option ℕ
nearest_among F t c s x zero = none
nearest_among F t c s x (suc m) = nearer_with F t c s x m (nearest_among F t c s x m)

-- where the cart then stops: at the nearest message, or else at the expected number, if it is not past that already
abbrev pub stop_by : Floor → ℕ → ℕ → ℕ → Option ℕ → Stop
stop_by F t s x nearest = by_option nearest (record { upto = x + (F.expected t s - x); found = none }) (λ k. record { upto = F.number k; found = some k })
