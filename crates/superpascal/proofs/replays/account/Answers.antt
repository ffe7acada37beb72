use Rattle.std.proofs.Common.{List, ℕ, subst}
use Rattle.sp_words.specs.declared.requests.View.TheVariants as view
use Rattle.superpascal.specs.Steps.{AccountsFor}
use Rattle.superpascal.proofs.MarkFacts.{entries_told, held_code, output_told, state_told}
use Rattle.superpascal.proofs.replays.account.Goals as goal

pub output-requires-clause-code : goal.output-requires-clause-code
output-requires-clause-code c = let h = c.requires.code in
    (h.0, h.1, held_code _ _ c.in-Ok.ensures.ok h.0 h.1 h.2)

pub entries-requires-clause-code : goal.entries-requires-clause-code
entries-requires-clause-code c = let h = c.requires.code in
    (h.0, h.1, held_code _ _ c.in-Ok.ensures.ok h.0 h.1 h.2)

pub state-requires-clause-code : goal.state-requires-clause-code
state-requires-clause-code c = let h = c.requires.code in
    (h.0, h.1, held_code _ _ c.in-Ok.ensures.ok h.0 h.1 h.2)

pub returns-in-Output : goal.returns-in-Output
returns-in-Output c = λ program tree view' has teller.
    output_told program c.args.input c.args.limits.now c.args.journal.now tree view' c.args.ready.teller
    c.in-Output.is teller c.output.result
    (subst (λ (i : List ℕ). AccountsFor view.Output program i c.args.limits.now c.args.journal.now c.output.result)
    c.in-Ok-new.ensures.ok (c.output.ensures program tree (held_code _ _ c.in-Ok.ensures.ok program tree has)))

pub returns-in-Entries : goal.returns-in-Entries
returns-in-Entries c = λ program tree view' has teller.
    entries_told program c.args.input c.args.limits.now c.args.journal.now tree view' c.args.ready.teller
    c.in-Entries.symbols c.in-Entries.is teller c.entries.result
    (λ is.
    subst (λ (i : List ℕ). AccountsFor view.Entries program i c.args.limits.now c.args.journal.now c.entries.result)
    c.in-Ok-new.ensures.ok
    (c.entries.ensures program tree (held_code _ _ c.in-Ok.ensures.ok program tree has) is))

pub returns : goal.returns
returns c = λ program tree view' has teller.
    state_told program c.args.input c.args.limits.now c.args.journal.now tree view' c.args.ready.teller
    c.in-State.symbols c.in-State.is teller c.state.result
    (λ is.
    subst (λ (i : List ℕ). AccountsFor view.State program i c.args.limits.now c.args.journal.now c.state.result)
    c.in-Ok-new.ensures.ok
    (c.state.ensures program tree (held_code _ _ c.in-Ok.ensures.ok program tree has) is))
