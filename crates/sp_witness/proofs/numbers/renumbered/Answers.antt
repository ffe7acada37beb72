use Rattle.std.proofs.Common.{◌<◌, length, sym, subst, arith}
use Rattle.sp_journal.specs.Births.{births}
use Rattle.std.proofs.Common.{take}
use Rattle.sp_journal.proofs.Walk.{any_entry, can_follow, still_nameable}
use Rattle.sp_witness.specs.Passes.{table_in}
use Rattle.sp_witness.proofs.Backwards.{few_numbers}
use Rattle.sp_witness.proofs.Forwards.{can_add, next_fits, entries_on, table_on, more_processes, more_channels}
use Rattle.sp_witness.proofs.numbers.renumbered.Goals as goal

pub overflow_add-process : goal.overflow_add-process
overflow_add-process c =
    let few = (few_numbers c.args.front.now c.requires.nameable c.loop-at.at c.loop-at-test.true).few in
    let is = c.loop-at.invariant.process in
    let more = c.children-process.ensures.few in
    omega (arith, few, is, more)

pub overflow_add-channel : goal.overflow_add-channel
overflow_add-channel c =
    let few = (few_numbers c.args.front.now c.requires.nameable c.loop-at.at c.loop-at-test.true).few_channels in
    let is = c.loop-at.invariant.channel in
    let more = c.channels-channel.ensures.few in
    omega (arith, few, is, more)

pub take-requires : goal.take-requires
take-requires c =
    can_add (births (take c.loop-at.at c.args.front.now)) _ c.loop-at.process c.loop-at.channel
    c.loop-at.numbers.next_process c.loop-at.numbers.next_channel
    (can_follow c.args.front.now c.loop-at.at any_entry c.loop-at-test.true c.loop-at.invariant.nameable)
    c.loop-at.invariant.process c.loop-at.invariant.channel c.loop-at.invariant.next_process
    c.loop-at.invariant.next_channel

pub loop-at-preserved : goal.loop-at-preserved
loop-at-preserved c =
    let es = c.args.front.now in
    let bs = c.args.marks.now in
    let at = c.loop-at.at in
    let h = c.loop-at.invariant in
    let inside = c.loop-at-test.true in
    let marked : at < length bs = subst (λ n. at < n) (sym c.requires.marks) inside in
    let is = c.in_ok-take.ensures.table (births (take at es)) (sym h.process) (sym h.channel) in
    let fits = next_fits _ (births (take at es)) (table_in c.loop-at.numbers) (table_in c.take.new.self) 0 _
    c.loop-at.process c.loop-at.channel c.children-process.result c.channels-channel.result
    h.process h.channel c.children-process.ensures.value c.channels-channel.ensures.value h.next_process h.next_channel
    is in
    record {
      nameable = still_nameable es at any_entry inside h.nameable;
      process = more_processes es at inside c.loop-at.process c.children-process.result h.process
          c.children-process.ensures.value;
      channel = more_channels es at inside c.loop-at.channel c.channels-channel.result h.channel
          c.channels-channel.ensures.value;
      next_process = fits.0;
      next_channel = fits.1;
      entries = entries_on es bs at inside marked (table_in c.loop-at.numbers) (table_in c.take.new.self) is
          c.loop-at.entries c.take.new.entries _ c.in_ok-take.ensures.entries h.entries;
      table = table_on es bs at inside marked (table_in c.loop-at.numbers) (table_in c.take.new.self) is _ h.table;
    }
