use Rattle.std.proofs.Common.{◌≡◌, ◌+◌, ◌≤◌, drop}
use Rattle.store.proofs.rehearsal.rehearse.Given as goal
use Rattle.store.specs.Meaning.{without}
use Rattle.store.specs.Rehearsals.{accepted}

abbrev pub invariant-loop-w : goal.invariant-loop-w
invariant-loop-w g l =
    (l.count ≤ l.w-index)
    × (g.S.Store.committed l.store ≡ g.S.Store.committed l.initial.store)
    × (without (g.S.Store.pending l.store) l.t ≡ without (g.S.Store.pending l.initial.store) l.t)
    × (g.S.Store.place l.store ≡ g.S.Store.place l.initial.store)
    × (l.count + accepted g.S.Store.private g.S.Store.room g.S.Store.share (g.S.Store.committed l.initial.store) (g.S.Store.pending l.store) l.t (drop l.w-index l.writes) ≡ accepted g.S.Store.private g.S.Store.room g.S.Store.share (g.S.Store.committed l.initial.store) (g.S.Store.pending l.initial.store) l.t l.writes)
