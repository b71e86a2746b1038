-- The whole: a search that comes to a stop has the least cost, and its chains make a simple route of that cost.
use Rattle.std.proofs.Common.{ℕ, ◌<◌}
use Rattle.routes.specs.Costs.{Costs}
use Rattle.routes.specs.Walks.{Roads, Back, At}
use Rattle.routes.specs.Worlds.{World, Lawful, mirror, Own}
use Rattle.routes.specs.States.{State, Side, swap}
use Rattle.routes.specs.Invariants.{Standing, Stopped, Least}
use Rattle.routes.specs.Routes.{Rooted, Simple}
use Rattle.routes.specs.Kept.{One, Keeping}
use Rattle.routes.specs.Runs.{Comes, begin, forth, back}
use Rattle.routes.proofs.Scan.{settled_has}
use Rattle.routes.proofs.Gate
use Rattle.routes.proofs.Mirror
use Rattle.routes.proofs.Begin
use Rattle.routes.proofs.Keep
use Rattle.routes.proofs.Final
use Rattle.routes.proofs.Chains

module _ (C : Costs) where
  open C use {Cost, ◌≼◌, blocked}

  infix 40 ◌≼◌
  pub rooted : (E : Roads C) (size : ℕ) (starts : ℕ → Type 0) (σ : Side Cost) (rank : ℕ → ℕ) → One C E size starts σ rank → Rooted C E starts σ rank
  rooted E size starts σ rank g = record {
    root = g.root;
    from = λ v u c h. let f = g.from v u c h in (f.0, f.1, settled_has (σ.label u) f.0 f.2, f.3, f.4, f.5);
  }

  module _ (W : World C) (L : Lawful C W) (s t : ℕ) (room_s : s < W.size) (room_t : t < W.size) where
    pub kept : {x : State Cost} → Comes C W s t x → Keeping C W.Edge (Own C W s) (Own C W t) W.size s t x
    kept {x} (begin h) = Begin.keeping C W.Edge (Own C W s) (Own C W t) W.size s t x h room_s room_t
    kept (forth {x} {x'} r T) = Keep.turn C W L s t x x' (kept r) T
    kept (back {x} {x'} r T) =
        Mirror.keeping C (Back C W.Edge) (Own C W t) (Own C W s) W.size t s (swap x')
        (Keep.turn C (mirror C W) (Mirror.lawful C W L) t s (swap x) (swap x') (Mirror.keeping C W.Edge (Own C W s) (Own C W t) W.size s t x (kept r)) T)

    module _ (x : State Cost) (r : Comes C W s t x) (stop : Stopped C x) where
      standing : Standing C W.Edge s t x
      standing = let k = kept r in record {
        fore = Gate.grown C W.Edge W.size (At s) x.fore k.rank_f k.fore L.small;
        back = Gate.grown C (Back C W.Edge) W.size (At t) x.back k.rank_b k.back L.small;
        cut_fore = k.cut_f;
        cut_back = k.cut_b;
        met = k.met;
        attained = k.attained;
        covered = k.covered;
      }

      -- best is least, and blocked exactly if there is no walk
      pub least : Least C W.Edge s t x.best
      least = Final.least C W.Edge s t x L.prices standing stop

      -- the route
      pub simple : (blocked ≼ x.best → ⊥) → Simple C W.Edge s t x
      simple =
          Chains.simple C W.Edge s t x L.prices standing stop (kept r).rank_f (kept r).rank_b
          (rooted W.Edge W.size (At s) x.fore (kept r).rank_f (kept r).fore) (rooted (Back C W.Edge) W.size (At t) x.back (kept r).rank_b (kept r).back)
