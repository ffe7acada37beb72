use Rattle.std.proofs.Common.{◌∙◌, ◌+◌, arith, sym, ap, subst}
use Rattle.std.proofs.lemmas.Bool.{or_parts}
use Rattle.sp_varsets.specs.Records.{slot_at}
use Rattle.sp_varsets.specs.Totals.{AreEntries}
use Rattle.sp_varsets.proofs.AddedSets.{went_well}
use Rattle.sp_varsets.proofs.CallSets.{entries_more}
use Rattle.sp_varsets.proofs.totals.statement_entries.Goals as goal

pub slots-preserved : goal.slots-preserved
slots-preserved c =
    let at = c.slot-sets.ensures ∙ ap (λ z. slot_at z c.slots.n) c.slots.invariant.0 in (
      c.entry_of-entry.ensures.slots ∙ c.slots.invariant.0,
      λ k. let (k1, well) = or_parts c.entry_of-entry.new.self.is_lost c.is_err.result k in
          let push = went_well c.push.result c.is_err.result c.push.ensures.ok c.is_err.ensures.value well in
          subst (λ z. AreEntries c.args.walk.now.pool c.entry_of-entry.new.self.pool c.args.walk.now.slots
          c.args.targets.now c.args.seen.now z (c.slots.n + 1)) (sym push)
          (entries_more c.args.walk.now.pool c.slots.walk.pool c.entry_of-entry.new.self.pool c.args.walk.now.slots
          c.args.targets.now c.args.seen.now c.slots.entries c.slots.n c.slot-sets.result c.entry_of-entry.result
          (c.slots.invariant.1 (c.entry_of-entry.ensures.kept k1)) (c.entry_of-entry.ensures.pool k1) at
          (λ sets e. c.requires.within c.slots.n sets (sym at ∙ e)) (c.entry_of-entry.ensures.entry k1)),
    )

pub entry_of-entry-requires-clause-within : goal.entry_of-entry-requires-clause-within
entry_of-entry-requires-clause-within c k sets e =
    let at = c.slot-sets.ensures ∙ ap (λ z. slot_at z c.slots.n) c.slots.invariant.0 in
    let within = c.requires.within c.slots.n sets (sym at ∙ e) in
    let more = c.slots.invariant.1 k in
    let longer = more.extends in
    record {
      targets = omega (arith, within.targets, longer.longer);
      expressions = omega (arith, within.expressions, longer.longer);
      calls = omega (arith, within.calls, longer.longer);
    }
