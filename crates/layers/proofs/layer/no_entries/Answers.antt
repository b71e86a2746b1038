use Rattle.std.proofs.Common.{[], length, None, sym, ap, ◌∙◌}
use Rattle.entries.specs.Entries.{entry_for}
use Rattle.layers.specs.Layers.{said_by}
use Rattle.layers.proofs.Counting.{many_none}
use Rattle.layers.proofs.layer.no_entries.Goals as goal

pub returns-clause-left : goal.returns-clause-left
unfolding entry_for
returns-clause-left g c =
    let k = g.E.Kind.rules in
    let laws = g.met.E.Kind.laws in record {
      reads = λ q. ap (λ es. k.shows (entry_for g.E.Entry.road es q)) c.new.ensures.none ∙ laws.blank;
      count = ap length c.new.ensures.none ∙ sym (many_none (λ q. k.counted (said_by k [] q)) 65536 (λ q. ap k.counted (sym laws.blank) ∙ laws.counts None));
    }
