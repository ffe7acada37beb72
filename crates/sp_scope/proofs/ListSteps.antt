-- A loop that puts what it makes of each item behind a list.
use Rattle.std.proofs.Common.{◌≡◌, ◌<◌, ℕ, ◌+◌, List, ◌∷◌, ◌++◌, drop, length, get_or, sym, ap, ◌∙◌}
use Rattle.std.proofs.lemmas.List.{append_assoc, at_drop_more}

-- what is made of all items is what stands there with what is made of the items left: so too one item further
pub item_put : {X Y : Type 0} (make : List X → List Y) (xs : List X) (i : ℕ) (x : X) (made old new whole : List Y)
    → i < length xs → x ≡ get_or xs i x → make (x ∷ drop (i + 1) xs) ≡ made ++ make (drop (i + 1) xs)
    → new ≡ old ++ made → old ++ make (drop i xs) ≡ whole → new ++ make (drop (i + 1) xs) ≡ whole
item_put make xs i x made old new whole there is one put before =
    ap (λ out. out ++ make (drop (i + 1) xs)) put ∙ append_assoc old made (make (drop (i + 1) xs))
    ∙ ap (λ rest. old ++ rest) (sym (at_drop_more make xs i x there
    ∙ ap (λ y. make (y ∷ drop (i + 1) xs)) (sym is) ∙ one)) ∙ before
