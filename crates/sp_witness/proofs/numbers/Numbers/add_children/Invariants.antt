use Rattle.std.proofs.Common.{◌≡◌, ◌+◌, ◌-◌, ◌&&◌, ℕ, cond, nat_le, nat_lt}
use Rattle.sp_witness.specs.Passes.{table_in}
use Rattle.sp_witness.proofs.numbers.Numbers.add_children.Given as goal

-- the children so far have numbers
abbrev pub invariant-loop-child : goal.invariant-loop-child
invariant-loop-child l = record {
  next : l.self.next_process ≡ l.fn.self.next_process;
  table : table_in l.self ≡ record (table_in l.fn.self) {
    process = λ (q : ℕ). cond (nat_le l.first q && nat_lt q (l.first + l.child))
        (l.fn.self.next_process + (q - l.first)) ((table_in l.fn.self).process q);
  };
}
