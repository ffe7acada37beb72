use Rattle.std.proofs.Common.{◌≡◌, ◌+◌, ◌-◌, ◌&&◌, ◌==◌, ℕ, cond, nat_le, nat_lt, Option, unwrap_or, sym, ap, ◌∙◌}
use Rattle.std.proofs.Common.{arith}
use Rattle.sp_witness.specs.TableNumbers.{Table}
use Rattle.sp_witness.specs.Passes.{table_in}
use Rattle.sp_witness.proofs.Forwards.{put_in, one_number}
use Rattle.sp_witness.proofs.numbers.Numbers.add_children.Goals as goal

pub loop-child-preserved : goal.loop-child-preserved
loop-child-preserved c =
    let h = c.loop-child.invariant.table in
    let k = c.loop-child.child in record {
      next = c.loop-child.invariant.next;
      table = λ i. record {
        process = λ (q : ℕ).
            (ap (λ (o : Option ℕ). unwrap_or o 0) (c.in_ok-insert.ensures.updates.0 q)
            ∙ put_in (c.args.first + k == q) (c.loop-child.self.next_process + k) 0 _
            ∙ ap (λ n. cond (c.args.first + k == q) (n + k) ((table_in c.loop-child.self).process q))
            c.loop-child.invariant.next
            ∙ one_number c.args.first k c.args.self.now.next_process q _ _ (ap (λ (t : Table). t.process q) h)) i;
        channel = (h i).channel;
        processes = (h i).processes;
        channels = (h i).channels;
      };
    }

pub returns : goal.returns
returns c =
    let h = c.loop-child.invariant.table in
    let n : c.loop-child.child ≡ c.args.count = omega arith in
    let next : c.loop-child.self.next_process + c.from-count.result ≡ c.args.self.now.next_process + c.args.count =
    omega arith in
    λ s e i. record {
      process = λ (q : ℕ).
          (ap (λ (t : Table). t.process q) h
          ∙ (λ j. cond (nat_le (sym e j) q && nat_lt q (sym e j + n j)) (c.args.self.now.next_process + (q - sym e j))
          ((table_in c.args.self.now).process q))) i;
      channel = (h i).channel;
      processes = next i;
      channels = (h i).channels;
    }
