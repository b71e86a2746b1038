use Rattle.std.proofs.Common.{◌≡◌, ℕ, ◌<◌, length, slice_index_or, Option, true}
use Rattle.std.specs.Fn.{FnReturnsAt}
use Rattle.cartridge.specs.Orders.{rises_at, key_before}
use Rattle.cartridge.proofs.orders.first_fall.Given as goal

abbrev pub invariant-loop-i : goal.invariant-loop-i
invariant-loop-i g l = (key : ℕ → Option (ℕ × ℕ))
    → ((i : ℕ) (d : g.row.T.Denot) (k : Option (ℕ × ℕ)) → i < length l.entries → FnReturnsAt g.F.Fn l.key_of (slice_index_or l.entries i d) k → k ≡ key i)
    → (l.last ≡ key_before key l.i) × ((i : ℕ) → i < l.i → rises_at key i ≡ true)
