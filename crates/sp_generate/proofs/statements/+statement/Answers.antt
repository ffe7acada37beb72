use Rattle.std.proofs.Common.{rules, ◌≡◌, ℕ, List, ◌∷◌, [], ◌++◌, ◌+◌, length, map, drop, sym, refl, ap, ◌∙◌, arith}
use Rattle.std.proofs.Common.{None, append_assoc, append-nil}
use Rattle.sp_tree.specs.declared.checked.Form.TheFolds as folds
use Rattle.sp_tree.specs.declared.checked.Stmt.{out-Stmt, fold_out-Stmt}
use Rattle.sp_tree.specs.declared.checked.Arm.{out-Arm}
use Rattle.sp_tree.specs.PlainChecked as tree
use Rattle.sp_tree.specs.CheckedOf.{expression_of, variable_of, actual_of, actuals, width_of, statement_of}
use Rattle.sp_tree.specs.CheckedOf.{statement_form_of, statements, sends, receives, arms, arm_of}
use Rattle.sp_tree.specs.Bare.{bare_expression, bare_arms, bare_statement}
use Rattle.sp_code.specs.declared.instr.Instr.{Instr}
use Rattle.sp_code.specs.declared.instr.Instr.TheVariants as i
use Rattle.sp_code.specs.Places.{after_statement}
use Rattle.sp_code.specs.TreeCode.{value_code}
use Rattle.sp_generate.specs.Handings.{moved_of, shared_of}
use Rattle.sp_generate.specs.Steps.{for_instr, next_instr}
use Rattle.sp_generate.specs.Tables.{child, children}
use Rattle.sp_generate.specs.declared.levels.Scope.{Scope}
use Rattle.sp_generate.specs.BuffersAfter.{written, child_of, index_table}
use Rattle.sp_generate.specs.CodeBuffers.{buffer_of, with_code, buffer_after, buffer_after_all}
use Rattle.sp_generate.specs.CodeBuffers.{buffer_after_children, buffer_after_arms, starts_of, ends_of}
use Rattle.sp_generate.specs.CodeBuffers.{buffer_after_branch, buffer_after_loop, buffer_after_forall}
use Rattle.sp_generate.specs.CodeBuffers.{buffer_after_case}
use Rattle.sp_generate.specs.CodeBuffers.{buffer_after_passed, filled_ends, filled_tests}
use Rattle.sp_generate.specs.Views.{plain_program, scopes}
use Rattle.sp_varsets.proofs.StatementRecords.{statements_on, statements_end, arms_on, arms_end}
use Rattle.sp_base.proofs.Additions.{noted}
use Rattle.sp_generate.proofs.Patches.{patched}
use Rattle.sp_generate.proofs.Forms.{wrote, went, empty_is, statement_is, all_step, sequence_done, else_is}
use Rattle.sp_generate.proofs.Forms.{child_next, ended_by}
use Rattle.sp_generate.proofs.Forms.{if_is, while_is, repeat_is, for_is, forall_is, case_is, assign_is, call_is}
use Rattle.sp_generate.proofs.Forms.{assume_is, read_is, readln_is, write_is, writeln_is, open_is, send_is, receive_is}
use Rattle.sp_generate.proofs.Forms.{branch_is, passed_is, loop_is, spread_is, parallel_is, choices_are, one_more}
use Rattle.sp_generate.proofs.Forms.{arms_none, children_none, arm_next, written_place}
use Rattle.sp_generate.proofs.statements.+statement.Goals as goal

pub put_statement-returns : goal.put_statement-returns
put_statement-returns t c =
    let p = plain_program c.args.context.now.program.now in
    let mv = moved_of c.args.context.now.sets.now in
    let sh = shared_of c.args.context.now.sets.now in
    let sc = scopes c.args.context.now.scopes.now in
    let d = written c.args.d.now in
    let s = out-Stmt c.args.s.now in
    let i : statement_of c.args.s.now ≡ tree.Does s.number s.at (statement_form_of s.form) =
    search (rules, fold_out-Stmt) in
    rw i (went c.put_statement_form.ensures (statement_is p mv sh sc d s.number s.at (statement_form_of s.form)))

pub put_statement_form-returns-in-Empty : goal.put_statement_form-returns-in-Empty
put_statement_form-returns-in-Empty t c =
    let i : statement_form_of c.args.form.now ≡ tree.Empty =
    search (rules, folds.the_lemmas) in
    rw i (λ k. (
      k,
      empty_is (plain_program c.args.context.now.program.now) (moved_of c.args.context.now.sets.now)
          (shared_of c.args.context.now.sets.now) (scopes c.args.context.now.scopes.now) (written c.args.d.now),
    ))

pub put_statement_form-returns-in-Assign : goal.put_statement_form-returns-in-Assign
put_statement_form-returns-in-Assign t c =
    let p = plain_program c.args.context.now.program.now in
    let mv = moved_of c.args.context.now.sets.now in
    let sh = shared_of c.args.context.now.sets.now in
    let sc = scopes c.args.context.now.scopes.now in
    let d = written c.args.d.now in
    let i : statement_form_of c.args.form.now ≡ tree.Assign (variable_of c.in-Assign.v) (expression_of c.in-Assign.e) =
    search (rules, folds.the_lemmas) in
    rw i (wrote d _ c.put_assign.ensures
    (assign_is p mv sh sc d (variable_of c.in-Assign.v) (expression_of c.in-Assign.e)))

pub put_statement_form-returns-in-Call : goal.put_statement_form-returns-in-Call
put_statement_form-returns-in-Call t c =
    let p = plain_program c.args.context.now.program.now in
    let mv = moved_of c.args.context.now.sets.now in
    let sh = shared_of c.args.context.now.sets.now in
    let sc = scopes c.args.context.now.scopes.now in
    let d = written c.args.d.now in
    let i : statement_form_of c.args.form.now ≡ tree.Call c.in-Call.f (actuals (map actual_of c.in-Call.args)) =
    search (rules, folds.the_lemmas) in
    rw i (wrote d _ c.put_call.ensures
    (call_is p mv sh sc d c.in-Call.f (actuals (map actual_of c.in-Call.args))))

pub put_statement_form-returns-in-Sequence : goal.put_statement_form-returns-in-Sequence
put_statement_form-returns-in-Sequence t c =
    let i : statement_form_of c.args.form.now ≡ tree.Sequence (statements (map statement_of c.in-Sequence.ss)) =
    search (rules, folds.the_lemmas) in
    rw i (c.put_sequence.ensures)

pub put_statement_form-returns-in-If-default-default-None : goal.put_statement_form-returns-in-If-default-default-None
put_statement_form-returns-in-If-default-default-None t c =
    let i : statement_form_of c.args.form.now
    ≡ tree.If (expression_of c.in-If-default-default-None.e) (statement_of c.in-If-default-default-None.a) tree.NoElse =
    search (rules, folds.the_lemmas) in
    rw i (rw c.get.ensures at c.put_if.ensures)

pub put_statement_form-returns-in-If-default-default-Some :
    goal.put_statement_form-returns-in-If-default-default-Some
put_statement_form-returns-in-If-default-default-Some t c =
    let p = plain_program c.args.context.now.program.now in
    let mv = moved_of c.args.context.now.sets.now in
    let sh = shared_of c.args.context.now.sets.now in
    let sc = scopes c.args.context.now.scopes.now in
    let d = written c.args.d.now in
    let d2 = written c.put_branch.new.d in
    let e = expression_of c.in-If-default-default-Some.e in
    let inner = statement_of c.in-If-default-default-Some.a in
    let other = statement_of c.in-If-default-default-Some.b in
    let i : statement_form_of c.args.form.now ≡ tree.If e inner (tree.Else other) =
    search (rules, folds.the_lemmas) in
    let va = value_code p sc (bare_expression e) in
    let g1 : c.get-in-If-default-default-Some.result.now ≡ c.in-If-default-default-Some.a = search rules in
    let g2 : c.get-in-If-default-default-Some-2.result.now ≡ c.in-If-default-default-Some.b = search rules in
    rw i (λ k. let o = c.put_passed.ensures k in
    let b = c.put_branch.ensures o.0 in
    let v = c.put_value.ensures b.0 in
    let before = b.1 ∙ (λ j. buffer_after_branch p mv sh (buffer_of (v.1 j) d.forks d.texts) sc
    (statement_of c.get-in-If-default-default-Some.result.now) 1)
    ∙ (λ j. buffer_after_branch p mv sh (with_code d va) sc (statement_of (g1 j)) 1) in (
      v.0,
      o.1 ∙ (λ j. buffer_after_passed p mv sh d2 sc (statement_of (g2 j)))
          ∙ else_is p mv sh sc d d2 e inner other before,
    ))

pub put_statement_form-returns-in-While : goal.put_statement_form-returns-in-While
put_statement_form-returns-in-While t c =
    let i : statement_form_of c.args.form.now ≡ tree.While (expression_of c.in-While.e) (statement_of c.in-While.s) =
    search (rules, folds.the_lemmas) in
    rw i (rw c.get-in-While.ensures at c.put_while.ensures)

pub put_statement_form-returns-in-Repeat : goal.put_statement_form-returns-in-Repeat
put_statement_form-returns-in-Repeat t c =
    let i : statement_form_of c.args.form.now ≡ tree.Repeat (statement_of c.in-Repeat.s) (expression_of c.in-Repeat.e) =
    search (rules, folds.the_lemmas) in
    rw i (rw c.get-in-Repeat.ensures at c.put_repeat.ensures)

pub put_statement_form-returns-in-For : goal.put_statement_form-returns-in-For
put_statement_form-returns-in-For t c =
    let p = plain_program c.args.context.now.program.now in
    let mv = moved_of c.args.context.now.sets.now in
    let sh = shared_of c.args.context.now.sets.now in
    let sc = scopes c.args.context.now.scopes.now in
    let d = written c.args.d.now in
    let from = expression_of c.in-For.from in
    let down = c.in-For.down in
    let to = expression_of c.in-For.to in
    let body = statement_of c.in-For.body in
    let i : statement_form_of c.args.form.now ≡ tree.For c.in-For.variable c.in-For.at from down to body =
    search (rules, folds.the_lemmas) in
    let vb = value_code p sc (bare_expression to) in
    let inside : c.get-in-For.result.now ≡ c.in-For.body = search rules in
    rw i (λ k. let f = c.put_for_body.ensures k in
    let w = c.put_value-in-For-2.ensures f.0 in
    let v = c.put_value-in-For.ensures w.0 in
    let both = w.1 ∙ ap (λ (ys : List Instr). ys ++ vb) v.1 in (
      v.0,
      f.1 ∙ (λ j. buffer_after_loop p mv sh (buffer_of (both j) d.forks d.texts) sc (statement_of (inside j))
          (for_instr down (c.slot.ensures j)) (next_instr down (c.slot.ensures j) (length (both j) + 1)))
          ∙ for_is p mv sh sc d c.in-For.variable c.in-For.at from down to body,
    ))

pub put_statement_form-returns-in-Case : goal.put_statement_form-returns-in-Case
put_statement_form-returns-in-Case t c =
    let i : statement_form_of c.args.form.now
    ≡ tree.Case (expression_of c.in-Case.e) (arms (map arm_of c.in-Case.arms)) =
    search (rules, folds.the_lemmas) in
    rw i (c.put_case.ensures)

pub put_statement_form-returns-in-Parallel : goal.put_statement_form-returns-in-Parallel
put_statement_form-returns-in-Parallel t c =
    let i : statement_form_of c.args.form.now ≡ tree.Parallel (statements (map statement_of c.in-Parallel.ss)) =
    search (rules, folds.the_lemmas) in
    rw i (c.put_parallel.ensures)

pub put_statement_form-returns-in-Forall : goal.put_statement_form-returns-in-Forall
put_statement_form-returns-in-Forall t c =
    let i : statement_form_of c.args.form.now
    ≡ tree.Forall c.in-Forall.index (expression_of c.in-Forall.from) (expression_of c.in-Forall.to)
    (statement_of c.in-Forall.body) =
    search (rules, folds.the_lemmas) in
    rw i (rw c.get-in-Forall.ensures at c.put_forall.ensures)

pub put_statement_form-returns-in-Assume : goal.put_statement_form-returns-in-Assume
put_statement_form-returns-in-Assume t c =
    let p = plain_program c.args.context.now.program.now in
    let mv = moved_of c.args.context.now.sets.now in
    let sh = shared_of c.args.context.now.sets.now in
    let sc = scopes c.args.context.now.scopes.now in
    let d = written c.args.d.now in
    let i : statement_form_of c.args.form.now ≡ tree.Assume (expression_of c.in-Assume.e) =
    search (rules, folds.the_lemmas) in
    rw i (wrote d _ c.put_assume.ensures
    (assume_is p mv sh sc d (expression_of c.in-Assume.e)))

pub put_statement_form-returns-in-ReadValue : goal.put_statement_form-returns-in-ReadValue
put_statement_form-returns-in-ReadValue t c =
    let p = plain_program c.args.context.now.program.now in
    let mv = moved_of c.args.context.now.sets.now in
    let sh = shared_of c.args.context.now.sets.now in
    let sc = scopes c.args.context.now.scopes.now in
    let d = written c.args.d.now in
    let i : statement_form_of c.args.form.now ≡ tree.ReadValue (variable_of c.in-ReadValue.v) =
    search (rules, folds.the_lemmas) in
    rw i (wrote d _ c.put_read.ensures
    (read_is p mv sh sc d (variable_of c.in-ReadValue.v)))

pub put_statement_form-returns-in-ReadLine : goal.put_statement_form-returns-in-ReadLine
put_statement_form-returns-in-ReadLine t c =
    let p = plain_program c.args.context.now.program.now in
    let mv = moved_of c.args.context.now.sets.now in
    let sh = shared_of c.args.context.now.sets.now in
    let sc = scopes c.args.context.now.scopes.now in
    let d = written c.args.d.now in
    let i : statement_form_of c.args.form.now ≡ tree.ReadLine =
    search (rules, folds.the_lemmas) in
    rw i (wrote d _ c.put.ensures
    (readln_is p mv sh sc d))

pub put_statement_form-returns-in-WriteValue : goal.put_statement_form-returns-in-WriteValue
put_statement_form-returns-in-WriteValue t c =
    let p = plain_program c.args.context.now.program.now in
    let mv = moved_of c.args.context.now.sets.now in
    let sh = shared_of c.args.context.now.sets.now in
    let sc = scopes c.args.context.now.scopes.now in
    let d = written c.args.d.now in
    let i : statement_form_of c.args.form.now
    ≡ tree.WriteValue (expression_of c.in-WriteValue.e) (width_of c.in-WriteValue.w) =
    search (rules, folds.the_lemmas) in
    rw i (wrote d _ c.put_write.ensures
    (write_is p mv sh sc d (expression_of c.in-WriteValue.e) (width_of c.in-WriteValue.w)))

pub put_statement_form-returns-in-WriteText : goal.put_statement_form-returns-in-WriteText
put_statement_form-returns-in-WriteText t c =
    let i : statement_form_of c.args.form.now ≡ tree.WriteText c.in-WriteText.text (width_of c.in-WriteText.w) =
    search (rules, folds.the_lemmas) in
    rw i (c.put_written.ensures)

pub put_statement_form-returns-in-WriteLine : goal.put_statement_form-returns-in-WriteLine
put_statement_form-returns-in-WriteLine t c =
    let p = plain_program c.args.context.now.program.now in
    let mv = moved_of c.args.context.now.sets.now in
    let sh = shared_of c.args.context.now.sets.now in
    let sc = scopes c.args.context.now.scopes.now in
    let d = written c.args.d.now in
    let i : statement_form_of c.args.form.now ≡ tree.WriteLine =
    search (rules, folds.the_lemmas) in
    rw i (wrote d _ c.put-in-WriteLine.ensures
    (writeln_is p mv sh sc d))

pub put_statement_form-returns-in-Open : goal.put_statement_form-returns-in-Open
put_statement_form-returns-in-Open t c =
    let p = plain_program c.args.context.now.program.now in
    let mv = moved_of c.args.context.now.sets.now in
    let sh = shared_of c.args.context.now.sets.now in
    let sc = scopes c.args.context.now.scopes.now in
    let d = written c.args.d.now in
    let i : statement_form_of c.args.form.now ≡ tree.Open (variable_of c.in-Open.v) =
    search (rules, folds.the_lemmas) in
    rw i (wrote d _ c.put_open.ensures
    (open_is p mv sh sc d (variable_of c.in-Open.v)))

pub put_statement_form-returns-in-Send : goal.put_statement_form-returns-in-Send
put_statement_form-returns-in-Send t c =
    let p = plain_program c.args.context.now.program.now in
    let mv = moved_of c.args.context.now.sets.now in
    let sh = shared_of c.args.context.now.sets.now in
    let sc = scopes c.args.context.now.scopes.now in
    let d = written c.args.d.now in
    let i : statement_form_of c.args.form.now
    ≡ tree.Send (expression_of c.in-Send.channel) (expression_of c.in-Send.e) =
    search (rules, folds.the_lemmas) in
    rw i (wrote d _ c.put_send.ensures
    (send_is p mv sh sc d (expression_of c.in-Send.channel) (expression_of c.in-Send.e)))

pub put_statement_form-returns-in-Receive : goal.put_statement_form-returns-in-Receive
put_statement_form-returns-in-Receive t c =
    let p = plain_program c.args.context.now.program.now in
    let mv = moved_of c.args.context.now.sets.now in
    let sh = shared_of c.args.context.now.sets.now in
    let sc = scopes c.args.context.now.scopes.now in
    let d = written c.args.d.now in
    let i : statement_form_of c.args.form.now
    ≡ tree.Receive (expression_of c.in-Receive.channel) (variable_of c.in-Receive.v) =
    search (rules, folds.the_lemmas) in
    rw i (wrote d _ c.put_receive.ensures
    (receive_is p mv sh sc d (expression_of c.in-Receive.channel) (variable_of c.in-Receive.v)))

pub put_statement_form-returns-in-SendEach : goal.put_statement_form-returns-in-SendEach
put_statement_form-returns-in-SendEach t c =
    let i : statement_form_of c.args.form.now
    ≡ tree.Sequence (sends c.in-SendEach.number c.in-SendEach.at (expression_of c.in-SendEach.channel)
    (map expression_of c.in-SendEach.values)) =
    search (rules, folds.the_lemmas) in
    rw i (c.put_send_each.ensures c.in-SendEach.at c.in-SendEach.number)

pub put_statement_form-returns-in-ReceiveEach : goal.put_statement_form-returns-in-ReceiveEach
put_statement_form-returns-in-ReceiveEach t c =
    let i : statement_form_of c.args.form.now
    ≡ tree.Sequence (receives c.in-ReceiveEach.number c.in-ReceiveEach.at (expression_of c.in-ReceiveEach.channel)
    (map variable_of c.in-ReceiveEach.variables)) =
    search (rules, folds.the_lemmas) in
    rw i (c.put_receive_each.ensures c.in-ReceiveEach.at c.in-ReceiveEach.number)

pub put_if-returns : goal.put_if-returns
put_if-returns t c k =
    let p = plain_program c.args.context.now.program.now in
    let mv = moved_of c.args.context.now.sets.now in
    let sh = shared_of c.args.context.now.sets.now in
    let sc = scopes c.args.context.now.scopes.now in
    let d = written c.args.d.now in
    let e = expression_of c.args.e.now in
    let a = statement_of c.args.a.now in
    let b = c.put_branch.ensures k in
    let v = c.put_value.ensures b.0 in (
      v.0,
      b.1 ∙ ap (λ (ys : List Instr). buffer_after_branch p mv sh (buffer_of ys d.forks d.texts) sc a 0) v.1
          ∙ if_is p mv sh sc d e a,
    )

pub put_branch-returns : goal.put_branch-returns
put_branch-returns t c k =
    let p = plain_program c.args.context.now.program.now in
    let mv = moved_of c.args.context.now.sets.now in
    let sh = shared_of c.args.context.now.sets.now in
    let sc = scopes c.args.context.now.scopes.now in
    let d = written c.args.d.now in
    let d2 = written c.put_statement.new.d in
    let m = c.mend_branch.ensures k in
    let s = c.put_statement.ensures m.0 in
    let x = c.put.ensures s.0 in (
      x.0,
      branch_is p mv sh sc d d2 (statement_of c.args.s.now) c.put.new.self.items.items
          c.mend_branch.new.code.items.items c.count-at.result (length d2.instrs) (length d2.instrs + c.args.beyond)
          c.args.beyond c.count-at.ensures x.1 s.1 refl refl m.1,
    )

pub put_passed-returns : goal.put_passed-returns
put_passed-returns t c k =
    let p = plain_program c.args.context.now.program.now in
    let mv = moved_of c.args.context.now.sets.now in
    let sh = shared_of c.args.context.now.sets.now in
    let sc = scopes c.args.context.now.scopes.now in
    let d = written c.args.d.now in
    let d2 = written c.put_statement.new.d in
    let m = c.mend_jump.ensures k in
    let s = c.put_statement.ensures m.0 in
    let x = c.put.ensures s.0 in (
      x.0,
      passed_is p mv sh sc d d2 (statement_of c.args.s.now) c.put.new.self.items.items
          c.mend_jump.new.code.items.items c.count-at.result (length d2.instrs) c.count-at.ensures x.1 s.1 refl m.1,
    )

pub put_while_body-returns : goal.put_while_body-returns
put_while_body-returns t c k =
    let p = plain_program c.args.context.now.program.now in
    let mv = moved_of c.args.context.now.sets.now in
    let sh = shared_of c.args.context.now.sets.now in
    let sc = scopes c.args.context.now.scopes.now in
    let d = written c.args.d.now in
    let d2 = written c.put_statement.new.d in
    let i3 = c.put-3.new.self.items.items in
    let m = c.mend_branch.ensures k in
    let z = c.put-3.ensures m.0 in
    let s = c.put_statement.ensures z.0 in
    let y = c.put-2.ensures s.0 in
    let x = c.put.ensures y.0 in (
      x.0,
      loop_is p mv sh sc d d2 (statement_of c.args.s.now) c.put.new.self.items.items c.put-2.new.self.items.items i3
          c.mend_branch.new.code.items.items i.Jumpf (i.Jump c.args.start) c.count-at.result (length i3 + 0)
          c.count-at.ensures x.1 y.1 s.1 z.1 (omega arith) m.1,
    )

pub put_while-returns : goal.put_while-returns
put_while-returns t c k =
    let p = plain_program c.args.context.now.program.now in
    let mv = moved_of c.args.context.now.sets.now in
    let sh = shared_of c.args.context.now.sets.now in
    let sc = scopes c.args.context.now.scopes.now in
    let d = written c.args.d.now in
    let e = expression_of c.args.e.now in
    let s = statement_of c.args.s.now in
    let va = value_code p sc (bare_expression e) in
    let b = c.put_while_body.ensures k in
    let v = c.put_value.ensures b.0 in
    let (good, (same, start_is)) = c.place-start.ensures v.0 in
    let code = v.1 ∙ ap (λ (ys : List Instr). ys ++ va) same in (
      good,
      b.1 ∙ (λ j. buffer_after_loop p mv sh (buffer_of (code j) d.forks d.texts) sc s i.Jumpf (i.Jump (start_is j)))
          ∙ while_is p mv sh sc d e s,
    )

pub put_repeat-returns : goal.put_repeat-returns
put_repeat-returns t c k =
    let p = plain_program c.args.context.now.program.now in
    let mv = moved_of c.args.context.now.sets.now in
    let sh = shared_of c.args.context.now.sets.now in
    let sc = scopes c.args.context.now.scopes.now in
    let d = written c.args.d.now in
    let e = expression_of c.args.e.now in
    let s = statement_of c.args.s.now in
    let va = value_code p sc (bare_expression e) in
    let d2 = written c.put_statement.new.d in
    let z = c.put-2.ensures k in
    let v = c.put_value.ensures z.0 in
    let b = c.put_statement.ensures v.0 in
    let x = c.put.ensures b.0 in
    let (good, (same, start_is)) = c.place-start.ensures x.0 in
    let tick = x.1 ∙ ap (λ (ys : List Instr). ys ++ i.Tick ∷ []) same in (
      good,
      (λ j. buffer_of (z.1 j) d2.forks d2.texts)
          ∙ (λ j. with_code (buffer_of (v.1 j) d2.forks d2.texts) (i.Jumpf (start_is j) ∷ []))
          ∙ (λ j. with_code (with_code (b.1 j) va) (i.Jumpf (length d.instrs) ∷ []))
          ∙ (λ j. with_code (with_code (buffer_after p mv sh (buffer_of (tick j) d.forks d.texts) sc s) va)
          (i.Jumpf (length d.instrs) ∷ []))
          ∙ repeat_is p mv sh sc d s e,
    )

pub put_for_body-returns : goal.put_for_body-returns
put_for_body-returns t c k =
    let p = plain_program c.args.context.now.program.now in
    let mv = moved_of c.args.context.now.sets.now in
    let sh = shared_of c.args.context.now.sets.now in
    let sc = scopes c.args.context.now.scopes.now in
    let d = written c.args.d.now in
    let down = c.args.down in
    let var = c.args.var in
    let d2 = written c.put_statement.new.d in
    let i0 = c.put.new.self.items.items in
    let i3 = c.put-3.new.self.items.items in
    let (end_good, (end_same, end_is)) = c.place-end.ensures k in
    let z = c.put-3.ensures end_good in
    let s = c.put_statement.ensures z.0 in
    let y = c.put-2.ensures s.0 in
    let (tick_good, (tick_same, tick_is)) = c.place-tick.ensures y.0 in
    let x = c.put.ensures tick_good in
    let tick = tick_is ∙ one_more p mv sh sc d.instrs i0 _ x.1 in (
      x.0,
      loop_is p mv sh sc d d2 (statement_of c.args.s.now) i0 c.put-2.new.self.items.items i3 c.set.new.code.items
          (for_instr down var) (next_instr down var (length d.instrs + 1)) c.count-at.result c.place-end.result
          c.count-at.ensures (x.1 ∙ ap (λ (x : Instr). d.instrs ++ x ∷ []) c.for_instr.ensures)
          (y.1 ∙ ap (λ (ys : List Instr). ys ++ i.Tick ∷ []) tick_same) s.1
          (z.1 ∙ ap (λ (x : Instr). d2.instrs ++ x ∷ []) (c.next_instr.ensures ∙ ap (next_instr down var) tick))
          end_is
          (λ a b x h m. c.set.ensures
          ∙ patched a b c.place-end.new.code.items.items x _ c.count-at.result (end_same ∙ h) m
          ∙ ap (λ (y : Instr). a ++ y ∷ b) c.for_instr-2.ensures),
    )

pub put_forall-returns : goal.put_forall-returns
put_forall-returns t c k =
    let p = plain_program c.args.context.now.program.now in
    let mv = moved_of c.args.context.now.sets.now in
    let sh = shared_of c.args.context.now.sets.now in
    let sc = scopes c.args.context.now.scopes.now in
    let d = written c.args.d.now in
    let from = expression_of c.args.from.now in
    let to = expression_of c.args.to.now in
    let s = statement_of c.args.s.now in
    let vb = value_code p sc (bare_expression to) in
    let f = c.put_spread.ensures k in
    let w = c.put_value-2.ensures f.0 in
    let v = c.put_value.ensures w.0 in
    let both = w.1 ∙ ap (λ (ys : List Instr). ys ++ vb) v.1 in (
      v.0,
      f.1 ∙ ap (λ (ys : List Instr). buffer_after_forall p mv sh (buffer_of ys d.forks d.texts) sc c.args.x s) both
          ∙ forall_is p mv sh sc d c.args.x from to s,
    )

pub put_case-returns : goal.put_case-returns
put_case-returns t c k =
    let p = plain_program c.args.context.now.program.now in
    let mv = moved_of c.args.context.now.sets.now in
    let sh = shared_of c.args.context.now.sets.now in
    let sc = scopes c.args.context.now.scopes.now in
    let d = written c.args.d.now in
    let e = expression_of c.args.e.now in
    let xs = arms (map arm_of c.args.xs.now) in
    let b = c.put_choices.ensures k in
    let v = c.put_value.ensures b.0 in (
      v.0,
      b.1 ∙ ap (λ (ys : List Instr). buffer_after_case p mv sh (buffer_of ys d.forks d.texts) sc xs) v.1
          ∙ case_is p mv sh sc d e xs,
    )

pub put_inside-returns-in-Ok : goal.put_inside-returns-in-Ok
put_inside-returns-in-Ok t c =
    let p = plain_program c.args.context.now.program.now in
    let mv = moved_of c.args.context.now.sets.now in
    let sh = shared_of c.args.context.now.sets.now in
    let sc = scopes c.args.context.now.scopes.now in
    let d = written c.args.d.now in
    went c.put_statement.ensures (ap (λ (ys : List Scope). buffer_after p mv sh d (scopes ys)
    (statement_of c.args.s.now)) (c.as_slice.ensures.value ∙ c.in-Ok.ensures))

pub put_spread-returns : goal.put_spread-returns
put_spread-returns t c k =
    let p = plain_program c.args.context.now.program.now in
    let mv = moved_of c.args.context.now.sets.now in
    let sh = shared_of c.args.context.now.sets.now in
    let sc = scopes c.args.context.now.scopes.now in
    let d = written c.args.d.now in
    let s = statement_of c.args.s.now in
    let d2 = written c.put_inside.new.d in
    let i0 = c.put.new.self.items.items in
    let i3 = c.put-3.new.self.items.items in
    let m = c.mend_jump.ensures k in
    let z = c.put-3.ensures m.0 in
    let b = c.put_inside.ensures z.0 in
    let y = c.put-2.ensures b.0 in
    let x = c.put.ensures y.0 in
    let (table_good, (table_same, forks_are)) = c.push_to.ensures _ c.index_table.ensures x.0 in
    let (entry_good, (entry_same, entry_is)) = c.number-entry.ensures _ c.sum.ensures table_good in
    let (first_good, (first_same, first_is)) = c.place-first.ensures entry_good in
    let (number_good, (number_same, number_is)) = c.number-number.ensures _ c.narrow.ensures first_good in
    let kept = table_same ∙ entry_same ∙ first_same ∙ number_same in (
      number_good,
      spread_is p mv sh sc d d2 c.args.x s c.push_to.new.list i0 c.put-2.new.self.items.items i3
          c.mend_jump.new.code.items.items
          (index_table c.args.context.now c.args.x c.number-entry.result s)
          c.number-number.result c.number-entry.result c.count-at.result (length i3) (number_is ∙ c.len.ensures)
          (entry_is ∙ ap (λ (m : ℕ). m + 2) (first_is ∙ ap length number_same)) refl forks_are
          (x.1 ∙ ap (λ (ys : List Instr). ys ++ i.Forall c.number-number.result ∷ []) kept)
          c.count-at.ensures y.1 b.1 z.1
          refl m.1,
    )

pub put_parallel-returns : goal.put_parallel-returns
put_parallel-returns t c k =
    let p = plain_program c.args.context.now.program.now in
    let mv = moved_of c.args.context.now.sets.now in
    let sh = shared_of c.args.context.now.sets.now in
    let sc = scopes c.args.context.now.scopes.now in
    let d = written c.args.d.now in
    let d2 = written c.put_children-children.new.d in
    let i0 = c.put.new.self.items.items in
    let m = c.mend_jump.ensures k in
    let (children_good, (children_put, lines_are)) = c.put_children-children.ensures m.0 in
    let y = c.put-2.ensures children_good in
    let x = c.put.ensures y.0 in
    let (table_good, (table_same, forks_are)) = c.push_to.ensures _ refl x.0 in
    let (number_good, (number_same, number_is)) = c.number-number.ensures _ c.narrow.ensures table_good in (
      number_good,
      parallel_is p mv sh sc d d2 (statements (map statement_of c.args.ss.now)) c.push_to.new.list
          c.patch_table.new.forks i0 c.put-2.new.self.items.items c.mend_jump.new.code.items.items
          _ c.put_children-children.result c.len-table.result c.number-number.result c.count-at.result
          (length d2.instrs)
          c.len-table.ensures number_is forks_are
          (x.1 ∙ ap (λ (ys : List Instr). ys ++ i.Fork c.number-number.result ∷ []) (table_same ∙ number_same))
          c.count-at.ensures y.1
          children_put lines_are refl m.1 c.patch_table.ensures,
    )

pub put_choices-returns : goal.put_choices-returns
put_choices-returns t c k =
    let p = plain_program c.args.context.now.program.now in
    let mv = moved_of c.args.context.now.sets.now in
    let sh = shared_of c.args.context.now.sets.now in
    let sc = scopes c.args.context.now.scopes.now in
    let d = written c.args.d.now in
    let xs = arms (map arm_of c.args.xs.now) in
    let d2 = written c.put_arms-starts.new.d in
    let i4 = c.fill_ends.new.code.items in
    let (note_good, (note_same, note_is)) = c.note.ensures k in
    let filled = noted c.fill_tests-filled.result c.fill_tests-filled.ensures note_is in
    let (end_good, (end_same, end_is)) = c.place-end.ensures note_good in
    let (arms_good, (arms_put, starts_are, ends_are)) = c.put_arms-starts.ensures end_good in
    let n = c.put.ensures arms_good in
    let b = c.put_blanks.ensures n.0 in (
      b.0,
      choices_are p mv sh sc d d2 xs c.put_blanks.new.code.items.items c.put.new.self.items.items i4
          c.note.new.self.items.items c.put_arms-starts.result.0 c.put_arms-starts.result.1 c.count-first.result
          c.place-end.result
          c.count-first.ensures b.1 n.1 arms_put starts_are ends_are end_is
          (c.fill_ends.ensures ∙ (λ j. filled_ends (end_same j) (c.items.ensures j) c.place-end.result))
          (note_same ∙ filled ∙ ap (λ (ys : List ℕ). filled_tests i4 c.count-first.result (bare_arms xs) ys)
          c.items-2.ensures),
    )

pub put_sequence-loop-s-preserved : goal.put_sequence-loop-s-preserved
put_sequence-loop-s-preserved t c k =
    let p = plain_program c.args.context.now.program.now in
    let mv = moved_of c.args.context.now.sets.now in
    let sh = shared_of c.args.context.now.sets.now in
    let sc = scopes c.args.context.now.scopes.now in
    let d = written c.loop-s.d in
    let rest = statements (map statement_of (drop (c.loop-s.s-index + 1) c.args.ss.now)) in
    let on = rw c.items-s-items.ensures at (statements_on c.items-s-items.result.now c.loop-s.s-index c.s-item.result
    c.loop-s-test.true c.s-item.is) in
    let s = c.put_statement.ensures k in
    let inv = c.loop-s.invariant s.0 in (
      inv.0,
      (λ j. buffer_after_all p mv sh (s.1 j) sc rest)
          ∙ all_step p mv sh sc d (statement_of c.s-item.result) rest
          ∙ (λ j. buffer_after_all p mv sh d sc (sym on j))
          ∙ inv.1,
    )

pub put_sequence-returns : goal.put_sequence-returns
put_sequence-returns t c k =
    let p = plain_program c.args.context.now.program.now in
    let mv = moved_of c.args.context.now.sets.now in
    let sh = shared_of c.args.context.now.sets.now in
    let sc = scopes c.args.context.now.scopes.now in
    let d = written c.loop-s.d in
    let end = rw c.items-s-items.ensures at (statements_end c.items-s-items.result.now c.loop-s.s-index
    c.loop-s-test.false) in
    let inv = c.loop-s.invariant k in (
      inv.0,
      sequence_done p mv sh sc (written c.args.d.now) d (statements (map statement_of c.args.ss.now))
          ((λ j. buffer_after_all p mv sh d sc (sym end j)) ∙ inv.1),
    )

pub put_children-loop-s-preserved : goal.put_children-loop-s-preserved
put_children-loop-s-preserved t c k =
    let p = plain_program c.args.context.now.program.now in
    let mv = moved_of c.args.context.now.sets.now in
    let sh = shared_of c.args.context.now.sets.now in
    let sc = scopes c.args.context.now.scopes.now in
    let d = written c.loop-s.d in
    let out = c.loop-s.lines in
    let s = statement_of c.s-item.result in
    let rest = statements (map statement_of (drop (c.loop-s.s-index + 1) c.args.ss.now)) in
    let on = rw c.items-s-items.ensures at (statements_on c.items-s-items.result.now c.loop-s.s-index c.s-item.result
    c.loop-s-test.true c.s-item.is) in
    let d2 = written c.put_statement.new.d in
    let z = c.put.ensures k in
    let b = c.put_statement.ensures z.0 in
    let (line_good, (line_same, lines_are)) = c.push_to.ensures _ c.child_line.ensures b.0 in
    let (entry_good, (entry_same, entry_is)) = c.place-entry.ensures line_good in
    let (good, (rest_put, rest_lines)) = c.loop-s.invariant entry_good in
    let body = b.1 ∙ (λ j. buffer_after p mv sh (buffer_of ((line_same ∙ entry_same) j) d.forks d.texts) sc s) in
    let place = (λ j. length (z.1 j)) ∙ (λ j. length ((body j).instrs ++ i.End ∷ [])) ∙ ended_by p mv sh sc d s i.End in
    let behind = children p mv sh (after_statement p (length d.instrs) (bare_statement s) + 1) rest in (
      good,
      (
        (λ j. buffer_after_children p mv sh (buffer_of (z.1 j) d2.forks d2.texts) sc rest)
            ∙ (λ j. buffer_after_children p mv sh (with_code (body j) (i.End ∷ [])) sc rest)
            ∙ child_next p mv sh sc d s rest
            ∙ (λ j. buffer_after_children p mv sh d sc (sym on j))
            ∙ rest_put,
        (λ j. (lines_are j) ++ children p mv sh (place j) rest)
            ∙ append_assoc out (child_of c.args.context.now c.place-entry.result s ∷ []) behind
            ∙ (λ j. out ++ (child p mv sh (entry_is j) None s ∷ behind))
            ∙ (λ j. out ++ children p mv sh (length d.instrs) (sym on j))
            ∙ rest_lines,
      ),
    )

pub put_children-returns : goal.put_children-returns
put_children-returns t c k =
    let p = plain_program c.args.context.now.program.now in
    let mv = moved_of c.args.context.now.sets.now in
    let sh = shared_of c.args.context.now.sets.now in
    let sc = scopes c.args.context.now.scopes.now in
    let d = written c.loop-s.d in
    let end = rw c.items-s-items.ensures at (statements_end c.items-s-items.result.now c.loop-s.s-index
    c.loop-s-test.false) in
    let (good, (rest_put, rest_lines)) = c.loop-s.invariant k in (
      good,
      (
        sym (children_none p mv sh sc d) ∙ (λ j. buffer_after_children p mv sh d sc (sym end j)) ∙ rest_put,
        sym (append-nil c.loop-s.lines) ∙ (λ j. c.loop-s.lines ++ children p mv sh (length d.instrs) (sym end j))
            ∙ rest_lines,
      ),
    )

pub put_arms-loop-a-preserved : goal.put_arms-loop-a-preserved
put_arms-loop-a-preserved t c k =
    let p = plain_program c.args.context.now.program.now in
    let mv = moved_of c.args.context.now.sets.now in
    let sh = shared_of c.args.context.now.sets.now in
    let sc = scopes c.args.context.now.scopes.now in
    let d = written c.loop-a.d in
    let starts = c.loop-a.starts in
    let ends = c.loop-a.ends in
    let rest = arms (map arm_of (drop (c.loop-a.a-index + 1) c.args.xs.now)) in
    let s = bare_statement (statement_of (out-Arm c.a-item.result).body) in
    let on = rw c.items-a-items.ensures at (arms_on c.items-a-items.result.now c.loop-a.a-index c.a-item.result
    c.loop-a-test.true c.a-item.is) in
    let q = length d.instrs in
    let behind = after_statement p q s + 1 in
    let d2 = written c.put_statement.new.d in
    let z = c.put.ensures k in
    let (end_good, (end_same, end_is)) = c.mark-in-loop-a.ensures z.0 in
    let st = c.put_statement.ensures end_good in
    let (start_good, (start_same, start_is)) = c.mark.ensures st.0 in
    let (good, (rest_put, rest_starts, rest_ends)) = c.loop-a.invariant start_good in
    let last = z.1 ∙ ap (λ (ys : List Instr). ys ++ i.Jump 0 ∷ []) end_same in
    let body = st.1 ∙ (λ j. buffer_after p mv sh (buffer_of (start_same j) d.forks d.texts) sc
    (statement_of (out-Arm c.a-item.result).body)) in
    let place = (λ j. length (last j)) ∙ (λ j. length ((body j).instrs ++ i.Jump 0 ∷ []))
    ∙ ended_by p mv sh sc d _ (i.Jump 0) in
    let end = (λ j. length (body j).instrs) ∙ written_place p mv sh sc d _ in (
      good,
      (
        (λ j. buffer_after_arms p mv sh (buffer_of (last j) d2.forks d2.texts) sc rest 0)
            ∙ (λ j. buffer_after_arms p mv sh (with_code (body j) (i.Jump 0 ∷ [])) sc rest 0)
            ∙ arm_next p mv sh sc d _ _ rest
            ∙ (λ j. buffer_after_arms p mv sh d sc (sym on j) 0)
            ∙ rest_put,
        (λ j. (start_is j) ++ starts_of p (place j) (bare_arms rest))
            ∙ append_assoc starts (q ∷ []) (starts_of p behind (bare_arms rest))
            ∙ (λ j. starts ++ starts_of p q (bare_arms (sym on j)))
            ∙ rest_starts,
        (λ j. (end_is j) ++ ends_of p (place j) (bare_arms rest))
            ∙ append_assoc ends (length d2.instrs ∷ []) (ends_of p behind (bare_arms rest))
            ∙ (λ j. ends ++ ((end j) ∷ ends_of p behind (bare_arms rest)))
            ∙ (λ j. ends ++ ends_of p q (bare_arms (sym on j)))
            ∙ rest_ends,
      ),
    )

pub put_arms-returns : goal.put_arms-returns
put_arms-returns t c k =
    let p = plain_program c.args.context.now.program.now in
    let mv = moved_of c.args.context.now.sets.now in
    let sh = shared_of c.args.context.now.sets.now in
    let sc = scopes c.args.context.now.scopes.now in
    let d = written c.loop-a.d in
    let end = rw c.items-a-items.ensures at (arms_end c.items-a-items.result.now c.loop-a.a-index
    c.loop-a-test.false) in
    let (good, (rest_put, rest_starts, rest_ends)) = c.loop-a.invariant k in (
      good,
      (
        sym (arms_none p mv sh sc d 0) ∙ (λ j. buffer_after_arms p mv sh d sc (sym end j) 0) ∙ rest_put,
        sym (append-nil c.loop-a.starts)
            ∙ (λ j. c.loop-a.starts ++ starts_of p (length d.instrs) (bare_arms (sym end j)))
            ∙ rest_starts,
        sym (append-nil c.loop-a.ends)
            ∙ (λ j. c.loop-a.ends ++ ends_of p (length d.instrs) (bare_arms (sym end j)))
            ∙ rest_ends,
      ),
    )
