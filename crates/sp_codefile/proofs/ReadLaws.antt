-- Reading a code file on, line by line.
use Rattle.std.proofs.Common.{◌≡◌, ◌≢◌, ℕ, zero, suc, ◌+◌, ◌==◌, Bool, true, false, cond, List, [], ◌∷◌, ◌++◌, length}
use Rattle.std.proofs.Common.{Option, Some, None, refl, sym, ap, ◌∙◌, subst, arith, append_assoc, append-nil}
use Rattle.std.proofs.Common.{length-append, codes}
use Rattle.std.proofs.lemmas.List.{append_cancel_left}
use Rattle.std.proofs.lemmas.List.Elements.{All-nil}
use Rattle.sp_journal.specs.Splits.{first_split, with_first}
use Rattle.sp_code.specs.declared.code.Parts.{Parts}
use Rattle.sp_code.specs.Sizes.{HasNumbers, HasSmallSizes, HasChild}
use Rattle.sp_codefile.specs.declared.item.Item.{Item}
use Rattle.std.specs.List.{flat_map}
use Rattle.std.proofs.lemmas.Bool.{eqb-true, ne_eqb, true≢false}
use Rattle.sp_journal.proofs.Facts.{here}
use Rattle.sp_journal.proofs.TextLaws.{parts_first, parts_second, none_parts}
use Rattle.sp_code.specs.Listing.{numbered_texts, instr_line}
use Rattle.sp_codefile.specs.CodeText.{layout_text, text_text, table_text, line, code_text, IsCode, IsTextOf, IsOneLine}
use Rattle.sp_codefile.specs.CodeText.{AreLines, IsFirstBad}
use Rattle.sp_codefile.specs.Items.{item_text, CanFollow, after_item, IsNextItem}
use Rattle.sp_codefile.proofs.ItemLaws.{text_step, code_step}
use Rattle.sp_codefile.proofs.LeadLaws.{ItemsLead, no_parts, from_nothing, items_text, text_along}
use Rattle.sp_codefile.proofs.LineLaws.{item_one_line}

pub line_at : (xs ys : List ℕ) → IsOneLine xs → first_split 10 (xs ++ 10 ∷ ys) ≡ Some (xs, ys)
line_at [] ys w = refl
line_at (x ∷ xs) ys w = rw (ne_eqb x 10 w.0) (rw (line_at xs ys w.1) refl)

pub line_joins : (xs a b : List ℕ) → first_split 10 xs ≡ Some (a, b) → xs ≡ a ++ 10 ∷ b
line_joins [] a b e = absurd (none_parts a b e)
line_joins (x ∷ xs) a b e = by (x == 10) refl (first_split 10 xs) (λ y z g. line_joins xs y z g) e
  where
    by : (t : Bool) → x == 10 ≡ t → (o : Option (List ℕ × List ℕ))
        → ((y z : List ℕ) → o ≡ Some (y, z) → xs ≡ y ++ 10 ∷ z) → cond t (Some ([], xs)) (with_first x o) ≡ Some (a, b)
        → x ∷ xs ≡ a ++ 10 ∷ b
    by true f o h g = (λ i. eqb-true x 10 f i ∷ xs)
        ∙ (λ i. parts_first [] xs a b g i ++ 10 ∷ parts_second [] xs a b g i)
    by false f None h g = absurd (none_parts a b g)
    by false f (Some p) h g = ap (λ (y : List ℕ). x ∷ y) (h p.0 p.1 refl)
        ∙ (λ i. parts_first (x ∷ p.0) p.1 a b g i ++ 10 ∷ parts_second (x ∷ p.0) p.1 a b g i)

line_then : (text more : List ℕ) → line text ++ more ≡ text ++ 10 ∷ more
line_then text more = append_assoc text (codes "\n") more

pub first_line : (text more : List ℕ) → IsOneLine text → first_split 10 (line text ++ more) ≡ Some (text, more)
first_line text more w = ap (first_split 10) (line_then text more) ∙ line_at text more w

no_line : (text more : List ℕ) → line text ++ more ≢ []
no_line [] more e = cc
no_line (x ∷ text) more e = cc

-- lines

pub lines_more : (n : ℕ) (xs text : List ℕ) → AreLines n xs → IsOneLine text → AreLines (suc n) (xs ++ line text)
lines_more zero xs text a w = (text, [], w, ap (λ (z : List ℕ). z ++ line text) a, refl)
lines_more (suc n) xs text (first, after, one, joined, others) w = (
  first,
  after ++ line text,
  one,
  ap (λ (z : List ℕ). z ++ line text) joined
      ∙ append_assoc first (10 ∷ after) (line text),
  lines_more n after text others w,
)

-- a text that begins with n lines and with one more
pub record OneMore (xs ys a b : List ℕ) : Type 0 where
  pub text : List ℕ
  pub is_line : IsOneLine text
  pub lines : ys ≡ xs ++ line text
  pub rest : a ≡ text ++ 10 ∷ b

pub one_more : (n : ℕ) (xs ys a b : List ℕ) → AreLines n xs → AreLines (suc n) ys → xs ++ a ≡ ys ++ b
    → OneMore xs ys a b
one_more zero xs ys a b f (first, _, one, joined, none_after) e = record {
  text = first;
  is_line = one;
  lines = joined ∙ ap (λ (z : List ℕ). first ++ 10 ∷ z) none_after ∙ ap (λ (z : List ℕ). z ++ line first) (sym f);
  rest = ap (λ (z : List ℕ). z ++ a) (sym f) ∙ e
      ∙ ap (λ (z : List ℕ). z ++ b) (joined ∙ ap (λ (z : List ℕ). first ++ 10 ∷ z) none_after)
      ∙ append_assoc first (10 ∷ []) b;
}
one_more (suc n) xs ys a b (x_first, x_after, x_one, x_joined, x_more) (y_first, y_after, y_one, y_joined, y_more) e =
    let left : xs ++ a ≡ x_first ++ 10 ∷ (x_after ++ a) = ap (λ (z : List ℕ). z ++ a) x_joined
    ∙ append_assoc x_first (10 ∷ x_after) a in
    let right : ys ++ b ≡ y_first ++ 10 ∷ (y_after ++ b) = ap (λ (z : List ℕ). z ++ b) y_joined
    ∙ append_assoc y_first (10 ∷ y_after) b in
    let k = sym (line_at x_first (x_after ++ a) x_one) ∙ ap (first_split 10) (sym left ∙ e ∙ right)
    ∙ line_at y_first (y_after ++ b) y_one in
    let h = one_more n x_after y_after a b x_more y_more (parts_second _ _ _ _ k) in record {
      text = h.text;
      is_line = h.is_line;
      lines = y_joined ∙ (λ i. parts_first _ _ _ _ (sym k) i ++ 10 ∷ h.lines i)
          ∙ sym (append_assoc x_first (10 ∷ x_after) (line h.text))
          ∙ ap (λ (z : List ℕ). z ++ line h.text) (sym x_joined);
      rest = h.rest;
    }

-- code whose text goes on from these parts

-- each code whose text begins with the text of these parts goes on from them
abbrev pub GoesOn : Parts → Type 0
GoesOn p = (q : Parts) (more : List ℕ) → IsCode q → code_text q ≡ code_text p ++ more → (xs : List Item)
    × ItemsLead p xs q

pub none_goes_on : GoesOn no_parts
none_goes_on q more c e = from_nothing q c

-- the rest of a code's text is the lines of the other items
rest_text : (p : Parts) (xs : List Item) (q : Parts) (rest : List ℕ) → ItemsLead p xs q → code_text q ≡ code_text p
    ++ rest
    → rest ≡ items_text p xs
rest_text p xs q rest h e = append_cancel_left (code_text p) rest (items_text p xs) (sym e ∙ text_along p xs q h)

pub goes_on_next : (p : Parts) (x : Item) → IsCode p → CanFollow p x
    → ((y : Item) → CanFollow p y → item_text p x ≡ item_text p y → y ≡ x) → GoesOn p → GoesOn (after_item p x)
goes_on_next p x c follows alone on q more d e = by (on q (line (item_text p x)
    ++ more) d whole).0 (on q (line (item_text p x) ++ more) d whole).1
  where
    whole : code_text q ≡ code_text p ++ (line (item_text p x) ++ more)
    whole = e ∙ ap (λ (z : List ℕ). z ++ more) (text_step p x follows)
        ∙ append_assoc (code_text p) (line (item_text p x)) more

    by : (xs : List Item) → ItemsLead p xs q → (ys : List Item) × ItemsLead (after_item p x) ys q
    by [] h = absurd (no_line (item_text p x) more (rest_text p [] q (line (item_text p x) ++ more) h whole))
    by (y ∷ ys) h =
        let same_rest = rest_text p (y ∷ ys) q (line (item_text p x) ++ more) h whole in
        let k = sym (first_line (item_text p x) more (item_one_line p x c follows)) ∙ ap (first_split 10) same_rest
        ∙ first_line (item_text p y) (items_text (after_item p y) ys) (item_one_line p y c h.0) in
        let is : y ≡ x = alone y h.0 (parts_first _ _ _ _ k) in
        (ys, subst (λ (z : Item). ItemsLead (after_item p z) ys q) is h.1)

-- with text left there is a next item on its first line
pub record FirstLeft (p : Parts) (rest : List ℕ) : Type 0 where
  pub item : Item
  pub more : List ℕ
  pub follows : CanFollow p item
  pub line : first_split 10 rest ≡ Some (item_text p item, more)

pub first_left : (p q : Parts) (rest : List ℕ) → IsCode p → GoesOn p → IsCode q → code_text q ≡ code_text p ++ rest
    → rest ≢ [] → FirstLeft p rest
first_left p q rest c on d e some = by (on q rest d e).0 (on q rest d e).1
  where
    by : (xs : List Item) → ItemsLead p xs q → FirstLeft p rest
    by [] h = absurd (some (rest_text p [] q rest h e))
    by (y ∷ ys) h = record {
      item = y;
      more = items_text (after_item p y) ys;
      follows = h.0;
      line = ap (first_split 10) (rest_text p (y ∷ ys) q rest h e)
          ∙ first_line (item_text p y) (items_text (after_item p y) ys) (item_one_line p y c h.0);
    }

-- with no text left there is no other code
pub none_left : (p q : Parts) → GoesOn p → IsCode q → code_text q ≡ code_text p → q ≡ p
none_left p q on d e = by (on q [] d whole).0 (on q [] d whole).1
  where
    whole : code_text q ≡ code_text p ++ []
    whole = e ∙ sym (append-nil (code_text p))

    by : (xs : List Item) → ItemsLead p xs q → q ≡ p
    by [] h = sym h
    by (y ∷ ys) h = absurd (no_line (item_text p y) (items_text (after_item p y) ys)
        (sym (rest_text p (y ∷ ys) q [] h whole)))

-- no code without anything is bad
pub no_parts_code : IsCode no_parts
no_parts_code = record {
  sizes = record {
    instrs = omega arith;
    layouts = omega arith;
    forks = omega arith;
    texts = omega arith;
    frames = All-nil HasNumbers;
    sizes = All-nil HasSmallSizes;
    children = All-nil HasChild;
  };
  layouts = All-nil _;
  texts = All-nil _;
  instrs = All-nil _;
  forks = All-nil _;
}

-- what has been read of the bytes: so many lines, which are the text of these parts
pub record Begun (bytes : List ℕ) (n : ℕ) (p : Parts) (rest : List ℕ) : Type 0 where
  pub code : IsCode p
  pub joined : bytes ≡ code_text p ++ rest
  pub lines : AreLines n (code_text p)
  pub goes_on : GoesOn p

-- the first line without its line feed
abbrev pub head : List ℕ
head = codes "superpascal code 1"

head_one_line : IsOneLine head
head_one_line = (
  n 115 refl,
  (
    n 117 refl,
    (
      n 112 refl,
      (
        n 101 refl,
        (
          n 114 refl,
          (
            n 112 refl,
            (
              n 97 refl,
              (
                n 115 refl,
                (
                  n 99 refl,
                  (
                    n 97 refl,
                    (
                      n 108 refl,
                      (n 32 refl, (n 99 refl, (n 111 refl, (n 100 refl, (n 101 refl, (n 32 refl, (n 49 refl, tt))))))),
                    ),
                  ),
                ),
              ),
            ),
          ),
        ),
      ),
    ),
  ),
)
  where
    n : (b : ℕ) → b == 10 ≡ false → b ≡ 10 → ⊥
    n b f e = true≢false (sym (here b 10 e) ∙ f)

-- what stands behind the first line
grouped : (h l t i f : List ℕ) → h ++ l ++ t ++ i ++ f ≡ h ++ (l ++ (t ++ (i ++ f)))
grouped h l t i f = simp append_assoc refl

behind_head : (p : Parts) → (rest : List ℕ) × (code_text p ≡ line head ++ rest)
behind_head p = (
  _,
  grouped (line head) (flat_map (λ l. line (layout_text l)) p.layouts)
      (flat_map (λ t. line (text_text t)) p.texts) (numbered_texts instr_line 0 p.instrs)
      (numbered_texts table_text 0 p.forks),
)

begins_with_head : (p : Parts) (bytes more : List ℕ) → bytes ++ more ≡ code_text p
    → first_split 10 (bytes ++ more) ≡ Some (head, (behind_head p).0)
begins_with_head p bytes more e = ap (first_split 10) (e ∙ (behind_head p).1)
    ∙ first_line head (behind_head p).0 head_one_line

-- the first line has been read
pub begun_first : (bytes rest : List ℕ) → first_split 10 bytes ≡ Some (head, rest) → Begun bytes 1 no_parts rest
begun_first bytes rest e = record {
  code = no_parts_code;
  joined = line_joins bytes head rest e;
  lines = (head, [], head_one_line, refl, refl);
  goes_on = none_goes_on;
}

-- no first line
pub bad_first : (bytes : List ℕ) → ((rest : List ℕ) → first_split 10 bytes ≡ Some (head, rest) → ⊥) → IsFirstBad 1 bytes
bad_first bytes bad = record {
  before = (
    0,
    refl,
    record {
      lines = [];
      rest = bytes;
      more = code_text no_parts;
      are_lines = refl;
      joined = refl;
      begins = (no_parts, record { code = no_parts_code; text = refl });
    },
  );
  here = λ s.
      let (first, after, one, joined, _) = s.are_lines in
      let left : s.lines ++ s.more ≡ first ++ 10 ∷ (after ++ s.more) = ap (λ (z : List ℕ). z ++ s.more) joined
      ∙ append_assoc first (10 ∷ after) s.more in
      let right : s.lines ++ s.rest ≡ first ++ 10 ∷ (after ++ s.rest) = ap (λ (z : List ℕ). z ++ s.rest) joined
      ∙ append_assoc first (10 ∷ after) s.rest in
      let k = sym (ap (first_split 10) left ∙ line_at first (after ++ s.more) one)
      ∙ begins_with_head s.begins.0 s.lines s.more s.begins.1.text in
      bad (after ++ s.rest) (ap (first_split 10) (s.joined ∙ right) ∙ line_at first (after ++ s.rest) one
      ∙ ap (λ (z : List ℕ). Some (z, after ++ s.rest)) (parts_first _ _ _ _ k));
  whole = λ t. bad (behind_head t.0).0 (ap (first_split 10) (t.1.text ∙ (behind_head t.0).1)
      ∙ first_line head (behind_head t.0).0 head_one_line);
}

-- one item more
pub begun_next : (bytes : List ℕ) (n : ℕ) (p : Parts) (rest text after : List ℕ) (x : Item) (q : Parts)
    → Begun bytes n p rest → Some (text, after) ≡ first_split 10 rest → IsNextItem p text (Some x) → q ≡ after_item p x
    → Begun bytes (suc n) q after
begun_next bytes n p rest text after x q b f next is = subst (λ (r : Parts). Begun bytes (suc n) r after) (sym is)
    (record {
      code = code_step p x b.code next.0;
      joined =
          b.joined ∙ ap (λ (z : List ℕ). code_text p ++ z) (line_joins rest text after (sym f)
          ∙ ap (λ (z : List ℕ). z ++ 10 ∷ after) next.1 ∙ sym (line_then (item_text p x) after))
          ∙ sym (append_assoc (code_text p) (line (item_text p x)) after)
          ∙ ap (λ (z : List ℕ). z ++ after) (sym (text_step p x next.0));
      lines = subst (AreLines (suc n)) (sym (text_step p x next.0))
          (lines_more n (code_text p) (item_text p x) b.lines (item_one_line p x b.code next.0));
      goes_on = goes_on_next p x b.code next.0 (λ y h e. next.2 y h (next.1 ∙ e)) b.goes_on;
    })

module _ (bytes : List ℕ) (n : ℕ) (p : Parts) (rest : List ℕ) (b : Begun bytes n p rest) where
  -- a rest that begins with no line of an item that can come next
  pub bad_here : rest ≢ []
      → ((x : Item) (more : List ℕ) → CanFollow p x → first_split 10 rest ≡ Some (item_text p x, more) → ⊥)
      → IsFirstBad (suc n) bytes
  bad_here some bad = record {
    before = (
      n,
      refl,
      record {
        lines = code_text p;
        rest = rest;
        more = [];
        are_lines = b.lines;
        joined = b.joined;
        begins = (p, record { code = b.code; text = append-nil (code_text p) });
      },
    );
    here = λ s.
        let h = one_more n (code_text p) s.lines rest s.rest b.lines s.are_lines (sym b.joined ∙ s.joined) in
        let q = s.begins.0 in
        let whole : code_text q ≡ code_text p ++ (line h.text ++ s.more) = sym s.begins.1.text
        ∙ ap (λ (z : List ℕ). z ++ s.more) h.lines ∙ append_assoc (code_text p) (line h.text) s.more in
        let f = first_left p q (line h.text ++ s.more) b.code b.goes_on s.begins.1.code whole (no_line h.text s.more) in
        let k = sym (first_line h.text s.more h.is_line) ∙ f.line in
        bad f.item s.rest f.follows (ap (first_split 10) h.rest ∙ line_at h.text s.rest h.is_line
        ∙ ap (λ (z : List ℕ). Some (z, s.rest)) (parts_first _ _ _ _ k));
    whole = λ t.
        let f = first_left p t.0 rest b.code b.goes_on t.1.code (sym t.1.text ∙ b.joined) some in
        bad f.item f.more f.follows f.line;
  }

  -- all has been read
  pub read_whole : rest ≡ [] → IsTextOf p bytes × ((q : Parts) → IsTextOf q bytes → q ≡ p)
  read_whole e =
      let text : bytes ≡ code_text p = b.joined ∙ ap (λ (z : List ℕ). code_text p ++ z) e ∙ append-nil (code_text p) in
      (record { code = b.code; text = text }, λ q t. none_left p q b.goes_on t.code (sym t.text ∙ text))

-- the parts are shorter than the text
pub shorter : (xs a b : List ℕ) → Some (a, b) ≡ first_split 10 xs → length a + (length b + 1) ≡ length xs
shorter xs a b e =
    let f : length xs ≡ length (a ++ 10 ∷ b) = ap length (line_joins xs a b (sym e)) in
    let g = length-append a (10 ∷ b) in
    omega arith

-- line n is bad at the rest
pub bad_line : (bytes : List ℕ) (n k : ℕ) (p : Parts) (rest : List ℕ) → k ≡ suc n → Begun bytes n p rest → rest ≢ []
    → ((x : Item) (more : List ℕ) → CanFollow p x → first_split 10 rest ≡ Some (item_text p x, more) → ⊥)
    → IsFirstBad k bytes
bad_line bytes n k p rest e b some bad = subst (λ (m : ℕ). IsFirstBad m bytes) (sym e)
    (bad_here bytes n p rest b some bad)
