use Rattle.std.proofs.Common.{◌≡◌, ℕ, ◌<◌, ◌&&◌, ◌||◌, ltb, length, get_or}
use Rattle.scheduler.specs.Bits.{has}
use Rattle.scheduler.specs.Edges.{asks, between, in_block}
use Rattle.scheduler.specs.ItemSets.{no_places}
use Rattle.scheduler.proofs.tables.Tables.add_asks.Given as goal

abbrev pub invariant-loop-b : goal.invariant-loop-b
invariant-loop-b g l =
    let f = asks (in_block l.holders.block) (g.R.LockRule.allows l.rule) l.self.locks.inner.items in
    (length l.rows ≡ 64)
    × ((a b : ℕ) → a < 64 → b < 64 → has (get_or l.rows b no_places).bits a ≡ (has (get_or l.initial.rows b no_places).bits a || (ltb b l.b && between l.self.open.items f b a)))
