use Rattle.std.proofs.Common.{◌≡◌, ◌∙◌, ℕ, ◌<◌, ◌^◌, ◌||◌, ◌&&◌, not, get_or, set, bit_or, bit_and, arith, ap, refl}
use Rattle.std.proofs.Common.{sym, subst, rules, w64}
use Rattle.std.specs.Int.{bit_not}
use Rattle.std.proofs.lemmas.List.{length-set}
use Rattle.sp_varsets.specs.Members.{has, in_words}
use Rattle.sp_varsets.proofs.WordChanges.{Added, added_more, added_is, sum_bit, news_more, news_start, nothing_new}
use Rattle.sp_varsets.proofs.WordChanges.{one_new}
use Rattle.sp_varsets.proofs.var_set.VarSet.add.Goals as goal

pub words-init : goal.words-init
words-init c =
    let room = c.in_ok-grow.ensures.words in (
      room,
      record { bits = λ j i low small. absurd (omega arith); kept = λ j low. refl },
      news_start c.grow.new.self.words,
    )

pub words-preserved : goal.words-preserved
words-preserved c =
    let k : ℕ = c.words.k in
    let a : Added c.grow.new.self.words c.words.self.words c.items-others.result.now c.args.hidden.now.words c.words.k =
    c.words.invariant.1 in
    let room = c.words.invariant.0 in
    let at : get_or c.words.self.words c.words.k 0 ≡ get_or c.grow.new.self.words c.words.k 0 =
    a.kept c.words.k (omega arith) in
    let g : get_or c.items.result.now c.words.k 0 ≡ get_or c.grow.new.self.words c.words.k 0 =
    ap (λ z. get_or z c.words.k 0) c.items.ensures ∙ at in
    let fits : get_or c.items.result.now c.words.k 0 < 2 ^ 64 = search rules in
    let sw : get_or c.grow.new.self.words c.words.k 0 < 2 ^ 64 = subst (λ z. z < 2 ^ 64) g fits in
    let sh : get_or c.args.hidden.now.words c.words.k 0 < 2 ^ 64 =
    subst (λ z. z < 2 ^ 64) c.word.ensures c.word.type_inv in
    let more : ℕ = bit_and (bit_and (get_or c.items-others.result.now c.words.k 0)
    (bit_not w64 (get_or c.args.hidden.now.words c.words.k 0)))
    (bit_not w64 (get_or c.grow.new.self.words c.words.k 0)) in
    let e : c.replace-old.new.self ≡ set c.words.self.words c.words.k
    (bit_or (get_or c.grow.new.self.words c.words.k 0) more) =
    rw (g, c.word.ensures) at c.replace-old.ensures.list in
    let n = length-set c.words.self.words c.words.k (bit_or (get_or c.grow.new.self.words c.words.k 0) more) in
    rw (g, c.word.ensures, e) (
      omega arith,
      added_more c.grow.new.self.words c.words.self.words c.items-others.result.now c.args.hidden.now.words c.words.k _
          a (omega arith)
          (λ i small. sum_bit (get_or c.grow.new.self.words c.words.k 0) (get_or c.items-others.result.now c.words.k 0)
          (get_or c.args.hidden.now.words c.words.k 0) i sw sh small),
      news_more c.grow.new.self.words c.words.self.words c.items-others.result.now c.args.hidden.now.words c.words.k
          c.words.changed c.words.invariant.2 (omega arith) at sw sh,
    )

pub returns-clause-added : goal.returns-clause-added
returns-clause-added c x =
    added_is c.grow.new.self.words c.words.self.words c.items-others.result.now c.args.hidden.now.words c.words.k
    c.words.invariant.1 (omega arith) x
    ∙ (ap (λ b. b || (in_words c.items-others.result.now x && not (has c.args.hidden.now x)))
    (c.in_ok-grow.ensures.same x)
    ∙ ap (λ ws. has c.args.self.now x || (in_words ws x && not (has c.args.hidden.now x))) c.items-others.ensures)

pub returns-clause-same : goal.returns-clause-same
returns-clause-same c e x =
    let a : Added c.grow.new.self.words c.words.self.words c.items-others.result.now c.args.hidden.now.words c.words.k =
    c.words.invariant.1 in
    nothing_new c.grow.new.self.words c.words.self.words c.words.k c.words.changed c.words.invariant.2 a.kept e x
    ∙ c.in_ok-grow.ensures.same x

pub returns-clause-changed : goal.returns-clause-changed
returns-clause-changed c e =
    let o = one_new c.grow.new.self.words c.words.self.words c.words.k c.words.changed c.words.invariant.2 e in
    (o.0, o.1, sym (c.in_ok-grow.ensures.same o.0) ∙ o.2)
