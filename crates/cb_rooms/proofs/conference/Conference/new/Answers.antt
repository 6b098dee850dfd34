use Rattle.std.proofs.Common.{◌∙◌, ap, ◌≡◌, ℕ, arith, map}
use Rattle.std.specs.Prelude.{string_bytes}
use Rattle.cb_rooms.specs.Conference.{held}
use Rattle.cb_rooms.specs.Places.{rooms_seen, room_of_entry, lines_of}
use Rattle.cb_rooms.proofs.Holding.{holds_none}
use Rattle.cb_rooms.proofs.conference.Conference.new.Goals as goal

pub invariant_of-result : goal.invariant_of-result
invariant_of-result c =
    let screen = c.in_ok-screen.screen in
    let wide : screen.capacity ≡ c.args.last = ap (λ b. b.capacity) c.in_ok-screen.ensures in
    (holds_none (rooms_seen c.new.result) c.new-2.result.entries (map string_bytes screen.items) screen.capacity
    (ap (map room_of_entry) c.new.ensures.empty) c.new-2.ensures.empty (ap (λ b. map string_bytes b.items) c.in_ok-screen.ensures)
    (omega (arith, wide), omega (arith, wide))).0

pub returns-clause-made : goal.returns-clause-made
returns-clause-made c =
    let screen = c.in_ok-screen.screen in
    let wide : screen.capacity ≡ c.args.last = ap (λ b. b.capacity) c.in_ok-screen.ensures in
    ap (λ (n : ℕ). held n (lines_of (rooms_seen c.new.result) c.new-2.result.entries)) wide
    ∙ ap (held c.args.last) (holds_none (rooms_seen c.new.result) c.new-2.result.entries (map string_bytes screen.items) screen.capacity
    (ap (map room_of_entry) c.new.ensures.empty) c.new-2.ensures.empty (ap (λ b. map string_bytes b.items) c.in_ok-screen.ensures)
    (omega (arith, wide), omega (arith, wide))).1
