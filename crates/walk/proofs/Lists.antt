-- Lists for walks: distinct keys taken from another list are no more than its, a list with distinct keys split in two, the last key of a
-- list, and what `first` passes over. Assumes nothing.
use mathlib.Core.Path.{◌≡◌, refl, sym, ap, subst, ◌∙◌}
use mathlib.Core.Bool.{true, false, cond, true≢false}
use mathlib.Core.List.{List, [], ◌∷◌, ◌++◌}
use Prim.Native.Nat.{suc, ◌≤◌}
use native.Mathlib.Omega.{arith}
use lib.ListN.{length}
use Rattle.value.specs.declared.Words.{Words}
use Rattle.value.specs.Same.{same, nil, is_nil}
use Rattle.value.proofs.Cases.{caseb, clash, or_right, never}
use Rattle.value.proofs.Same.{same-eq, same_refl, ne_same}
use Rattle.model.specs.Entries.{Entry, entry, keys_of, member, distinct, has, find, found, last, not_found, first}
use Rattle.model.proofs.Entries.{has-append}

-- ---- no more than there are
abbrev without : List Words → Words → List Words
without [] x = []
without (y ∷ ys) x = cond (same y x) ys (y ∷ without ys x)

length_without : (ys : List Words) (x : Words) → member ys x ≡ true → length ys ≡ suc (length (without ys x))
length_without [] x h = absurd (true≢false (sym h))
length_without (y ∷ ys) x h = caseb (same y x) (λ e. rw e) (λ e. rw e (ap suc (length_without ys x (rw e at h))))

member-without : (ys : List Words) (x k : Words) → same x k ≡ false → member ys k ≡ true → member (without ys x) k ≡ true
member-without [] x k n h = h
member-without (y ∷ ys) x k n h =
    caseb (same y x)
    (λ e. let d : same y k ≡ false = subst (λ (z : Words). same z k ≡ false) (sym (same-eq y x e)) n in rw e (rw d at h))
    (λ e. rw e (caseb (same y k) (λ d. rw d) (λ d. rw d (member-without ys x k n (rw d at h)))))

pub no_longer : (xs ys : List Words) → distinct xs → ((k : Words) → member xs k ≡ true → member ys k ≡ true) → length xs ≤ length ys
no_longer [] ys d h = omega arith
no_longer (x ∷ xs) ys d h =
    let fewer : length xs ≤ length (without ys x) =
    no_longer xs (without ys x) d.1
    (λ k g. member-without ys x k (ne_same x k (λ p. clash (subst (λ (z : Words). member xs z ≡ true) (sym p) g) d.0)) (h k (or_right (same x k) (member xs k) g))) in
    omega (arith, length_without ys x (h x (rw (same_refl x))))

-- ---- a list split in two
pub apart : (l m : List Entry) (k : Words) → distinct (keys_of (l ++ m)) → has l k ≡ true → has m k ≡ false
apart [] m k d h = absurd (true≢false (sym h))
apart (s ∷ ss) m k d h =
    caseb (has m k)
    (λ b. caseb (same s.key k)
    (λ e. clash (has-append ss m k ∙ or_right (has ss k) (has m k) b) (subst (λ (x : Words). has (ss ++ m) x ≡ false) (same-eq s.key k e) d.0))
    (λ e. apart ss m k d.1 (rw e at h)))
    (λ b. b)

-- a list splits where its keys do
pub keys-split : (l : List Entry) (ks ms : List Words) → keys_of l ≡ ks ++ ms → (a : List Entry) × (b : List Entry) × (l ≡ a ++ b) × (keys_of a ≡ ks) × (keys_of b ≡ ms)
keys-split l [] ms h = ([], l, refl, refl, h)
keys-split [] (x ∷ ks) ms h = never (cc)
keys-split (s ∷ ss) (x ∷ ks) ms h =
    let e : s.key ≡ x = cc in
    let es : keys_of ss ≡ ks ++ ms = cc in
    let r : (a : List Entry) × (b : List Entry) × (ss ≡ a ++ b) × (keys_of a ≡ ks) × (keys_of b ≡ ms) = keys-split ss ks ms es in
    (s ∷ r.0, r.1, ap {B = List Entry} (λ l. s ∷ l) r.2, rw (e, r.3), r.4)

-- the last of these keys, or d if there is none
abbrev pub last_key : Words → List Words → Words
last_key d [] = d
last_key d (k ∷ ks) = last_key k ks

pub last_snoc : (d : Words) (l : List Entry) (s : Entry) → last_key d (keys_of (l ++ (s ∷ []))) ≡ s.key
last_snoc d [] s = refl
last_snoc d (x ∷ xs) s = last_snoc x.key xs s

-- the entry that has it
pub last_entry : (s : Entry) (ss : List Entry) → (l : List Entry) × (x : Entry) × (s ∷ ss ≡ l ++ (x ∷ [])) × (x.key ≡ last_key s.key (keys_of ss))
last_entry s [] = ([], s, refl, refl)
last_entry s (y ∷ ys) =
    let r : (l : List Entry) × (x : Entry) × (y ∷ ys ≡ l ++ (x ∷ [])) × (x.key ≡ last_key y.key (keys_of ys)) = last_entry y ys in
    (s ∷ r.0, r.1, ap {B = List Entry} (λ l. s ∷ l) r.2, r.3)

-- ---- the first pair with a value
pub record FirstFound (l : List Entry) (k v : Words) : Type 0 where
  pub passed : List Entry
  pub rest : List Entry
  pub is : l ≡ passed ++ (entry k v ∷ rest)
  pub none : first passed ≡ last
  pub value : is_nil v ≡ false

pub first_found : (l : List Entry) (k v : Words) → first l ≡ found k v → FirstFound l k v
first_found [] k v h = never (cc)
first_found (s ∷ ss) k v h =
    caseb (is_nil s.value)
    (λ e. let r : FirstFound ss k v = first_found ss k v (rw e at h) in
    record { passed = s ∷ r.passed; rest = r.rest; is = ap {B = List Entry} (λ l. s ∷ l) r.is; none = rw e r.none; value = r.value })
    (λ e. let g : found s.key s.value ≡ found k v = rw e at h in
    let kk : s.key ≡ k = cc in
    let vv : s.value ≡ v = cc in
    record { passed = []; rest = ss; is = λ i. entry (kk i) (vv i) ∷ ss; none = refl; value = rw vv at e })

pub first-last : (l : List Entry) (k : Words) → first l ≡ last → is_nil (find l k) ≡ true
first-last [] k h = same_refl nil
first-last (s ∷ ss) k h =
    caseb (is_nil s.value)
    (λ e. caseb (same s.key k) (λ b. rw b e) (λ b. rw b (first-last ss k (rw e at h))))
    (λ e. let g : found s.key s.value ≡ last = rw e at h in never (cc))

pub first-there : (l : List Entry) → first l ≡ not_found → ⊥
first-there [] h = never (cc)
first-there (s ∷ ss) h =
    caseb (is_nil s.value)
    (λ e. first-there ss (rw e at h))
    (λ e. let g : found s.key s.value ≡ not_found = rw e at h in never (cc))
