-- `frame_reader::check` meets its contract: a reader that gives an event has passed a whole frame, and one that gives none has come to the end of the check.
use mathlib.Core.Path.{◌≡◌, refl, ap, ap₂, subst, sym, ◌∙◌}
use mathlib.Core.List.{List}
use Prim.Native.Nat.{ℕ, ◌+◌, ◌<◌, ◌≤◌}
use native.Mathlib.Omega.{arith}
use lib.ListN.{drop}
use Rattle.protocol.specs.Floor.{limits}
use Rattle.protocol.specs.Frames.{read_at, moved_to}
use Rattle.frames.specs.Decoded.{refusal_number}
use Rattle.frame_reader.specs.Reads.{refusal_code}
use Rattle.frame_reader.specs.Checks.{whole, after, checked}
use Rattle.frame_reader.proofs.Stream.{Stand, next, next_inside, passed, no_further, read_some, same_found}
use Rattle.frame_reader.proofs.check.Goals as goal

pub loop-frames-preserved : goal.loop-frames-preserved
loop-frames-preserved c =
    let i = c.loop-frames.invariant in
    let l = c.args.octets.now in
    let r = c.loop-frames.reader in
    let t : Stand l = record { frames = c.loop-frames.frames; at = r.at; rest = i.rest; few = i.few; inside = i.inside } in
    let s = c.in-Some.ensures.steps in
    let some = read_some r.octets.now r.at _ _ s.gave in
    let behind = ap (moved_to r.at) s.gave in
    let moved = s.moved ∙ ap (λ (k : List ℕ). moved_to r.at (read_at limits k r.at)) i.octets in
    let moves : t.at < next t = omega arith in
    let z = next_inside l t in
    record {
      rest = subst (λ (n : ℕ). after (whole (t.frames + 1) n) (checked (drop n l)) ≡ checked l) (sym moved) (passed l t moves);
      few = omega arith;
      inside = omega arith;
      octets = ap (λ x. x.now) s.octets ∙ i.octets;
    }

pub returns : goal.returns
returns c =
    let i = c.loop-frames.invariant in
    let l = c.args.octets.now in
    let r = c.loop-frames.reader in
    let t : Stand l = record { frames = c.loop-frames.frames; at = r.at; rest = i.rest; few = i.few; inside = i.inside } in
    let s = c.in_default.ensures.steps in
    let octets = ap (λ x. x.now) s.octets ∙ i.octets in
    let moved = s.moved ∙ ap (λ (k : List ℕ). moved_to r.at (read_at limits k r.at)) i.octets in
    let here = s.gave in
    let stays : next t ≤ t.at = omega arith in
    same_found refl here refl
    ∙ no_further l t stays (refusal_code c.refusal.result)
    (c.refusal.ensures ∙ ap₂ (λ (k : List ℕ) (at : ℕ). refusal_number (read_at limits k at)) octets here)
