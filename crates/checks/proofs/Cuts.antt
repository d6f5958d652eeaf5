-- A slice cut three times is its parts joined. Assumes nothing.
use Rattle.std.proofs.Common.{◌≡◌, ℕ, List, ◌++◌, append_assoc, sym, ap, ◌∙◌}
use Rattle.std.specs.List.{IsSplitAt}
use Rattle.std.proofs.lemmas.List.{take-append-drop}

cut : {ws xs rest : List ℕ} {n : ℕ} → IsSplitAt ws n xs rest → ws ≡ xs ++ rest
cut {ws} {n = n} h = rw (h.1, h.2) (sym (take-append-drop n ws))

pub cut_thrice : {ws xs ys zs rest1 rest2 rest3 : List ℕ} {l m n : ℕ} → IsSplitAt ws l xs rest1 → IsSplitAt rest1 m ys rest2 → IsSplitAt rest2 n zs rest3 → ws ≡ xs ++ ys ++ zs ++ rest3
cut_thrice {xs = xs} {ys = ys} {zs = zs} {rest3 = rest} f g h =
    cut f ∙ ap (λ l. xs ++ l) (cut g) ∙ sym (append_assoc xs ys _) ∙ ap (λ l. xs ++ ys ++ l) (cut h) ∙ sym (append_assoc (xs ++ ys) zs rest)
