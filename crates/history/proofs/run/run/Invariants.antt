use Rattle.std.proofs.Common.{◌≡◌, ◌≤◌, length, take, vec_items, vec_len, vec_capacity}
use Rattle.scheduler.specs.Steps.{Terms}
use Rattle.scheduler.specs.Tables.{ledger_of}
use Rattle.history.proofs.Going.{GoingOn}
use Rattle.history.proofs.run.run.Given as goal

abbrev pub invariant-loop-call : goal.invariant-loop-call
invariant-loop-call g l =
    let S = g.S.Store in
    let k : Terms = record { private = S.private; room = S.room; share = S.share } in
    let s = l.initial.scheduler.store in
    let ok = g.R.LockRule.allows l.initial.scheduler.rule in
    (vec_len l.answers ≡ l.call-index) × (length l.calls ≤ vec_capacity l.answers)
    × (l.scheduler.rule ≡ l.initial.scheduler.rule) × (l.scheduler.refusal ≡ l.initial.scheduler.refusal) × (S.place l.scheduler.store ≡ S.place s)
    × GoingOn ok k l.initial.scheduler.refusal (S.committed s) (S.pending s) (take l.call-index l.calls) (vec_items l.answers) (ledger_of l.scheduler.tables) (S.committed l.scheduler.store) (S.pending l.scheduler.store)
