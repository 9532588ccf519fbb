use Rattle.std.proofs.Common.{◌≡◌, ℕ, ◌<◌, Bool, false, not, ◌&&◌, ◌||◌, eqb, ltb, length, get_or, sym, refl, ap, ◌∙◌, arith}
use Rattle.std.proofs.lemmas.Bool.{lt-ltb}
use Rattle.scheduler.specs.declared.lock.Kind.TheVariants.{Read, Write}
use Rattle.scheduler.specs.declared.transaction.State.TheVariants.{Waiting}
use Rattle.scheduler.specs.Bits.{has}
use Rattle.scheduler.specs.Edges.{number_at}
use Rattle.scheduler.specs.ItemSets.{no_places}
use Rattle.scheduler.specs.Ledger.{holds}
use Rattle.scheduler.proofs.Gathered.{at-write, bars_row, read_row, write_row}
use Rattle.scheduler.proofs.tables.Tables.asked_in.Goals as goal

pub returns-else-contains : goal.returns-else-contains
returns-else-contains g c =
    let T = c.args.self.now in
    let os = T.open.items in
    let ls = T.locks.inner.items in
    let ok = g.R.LockRule.allows c.args.rule.now in
    let w = c.args.holders.now.block in
    let b = c.args.b in
    let x = c.in-Read.item in
    let rs = c.args.holders.now.readers in
    let ws = c.args.holders.now.writers in
    let lb : b < length os = omega (arith, c.requires.within) in
    let small : b < 64 = omega (arith, c.requires.within, T.few) in
    let none : (ltb b (length os) && holds (number_at os b) x Write ls) ≡ false =
    sym (at-write os T.begins T.rising b lb ok ls w x Read c.if-item-holders.true rs ws c.requires.holders.readers c.requires.holders.writers b small)
    ∙ ap (λ (n : ℕ). has (get_or ws n no_places).bits b) (sym c.from-j.ensures) ∙ sym c.if-contains.ensures in
    let free : holds (number_at os b) x Write ls ≡ false = ap (λ (t : Bool). t && holds (number_at os b) x Write ls) (sym (lt-ltb b (length os) lb)) ∙ none in
    read_row os T.begins T.rising b lb ok ls w x Read c.if-item-holders.true rs ws c.requires.holders.readers c.requires.holders.writers refl (sym c.in-Waiting.ensures ∙ ap Waiting c.in-Read.is) free c.without.result.bits
    (bars_row os T.begins T.rising b lb ok ls w x Read c.if-item-holders.true rs ws c.requires.holders.readers c.requires.holders.writers c.without.result.bits
    (λ a. c.without.ensures a ∙ ap (λ (t : Bool). t && not (eqb b a)) (c.barring.ensures a ∙ ap (λ (n : ℕ). (not (ok Read Read) && has (get_or rs n no_places).bits a) || (not (ok Read Write) && has (get_or ws n no_places).bits a)) c.from-j.ensures)))

pub returns-in-Write : goal.returns-in-Write
returns-in-Write g c =
    let T = c.args.self.now in
    let os = T.open.items in
    let ls = T.locks.inner.items in
    let ok = g.R.LockRule.allows c.args.rule.now in
    let w = c.args.holders.now.block in
    let b = c.args.b in
    let x = c.in-Write.item in
    let rs = c.args.holders.now.readers in
    let ws = c.args.holders.now.writers in
    let lb : b < length os = omega (arith, c.requires.within) in
    write_row os T.begins T.rising b lb ok ls w x Write c.if-item-holders-2.true rs ws c.requires.holders.readers c.requires.holders.writers c.in-Write.value refl (sym c.in-Waiting.ensures ∙ ap Waiting c.in-Write.is) c.without-in-Write.result.bits
    (bars_row os T.begins T.rising b lb ok ls w x Write c.if-item-holders-2.true rs ws c.requires.holders.readers c.requires.holders.writers c.without-in-Write.result.bits
    (λ a. c.without-in-Write.ensures a ∙ ap (λ (t : Bool). t && not (eqb b a)) (c.barring-in-Write.ensures a ∙ ap (λ (n : ℕ). (not (ok Write Read) && has (get_or rs n no_places).bits a) || (not (ok Write Write) && has (get_or ws n no_places).bits a)) c.from-j-in-Write.ensures)))
