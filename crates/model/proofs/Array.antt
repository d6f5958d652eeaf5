-- The array part as pairs: which keys it has, and that get is a search of all pairs. Assumes nothing.
use mathlib.Core.Path.{◌≡◌, sym, ap, subst, ◌∙◌}
use mathlib.Core.Bool.{Bool, true, false, ◌&&◌, ◌||◌, true≢false}
use mathlib.Core.List.{List, [], ◌∷◌, ◌++◌, append_assoc}
use mathlib.Core.Logic.{inl, inr}
use Prim.Native.Nat.{ℕ, zero, suc, ◌+◌, ◌-◌, ◌≤◌, ◌<◌}
use native.Mathlib.Nat.{le_of_suc-le-suc, not-suc-le-zero}
use native.Mathlib.Omega.{arith}
use lib.Dec.{eqb, leb, ltb}
use lib.ListN.{length, get_or, set}
use borrow.Author.Tests.{leb-true, ltb-true, eqb-true, lt-ltb, le-leb}
use Rattle.value.specs.declared.Words.{Words}
use Rattle.value.specs.Same.{same, nil}
use Rattle.value.proofs.Cases.{caseb, clash, and_left, and_right, or_cases}
use Rattle.value.proofs.Same.{same-eq, eq-same, ne_same}
use Rattle.key.specs.Canonical.{integer, largest, array_index}
use Rattle.model.specs.Entries.{Entry, entry, keys_of, has, find, put, distinct}
use Rattle.model.specs.Table.{Table, offset, within, place_of, array_pairs, pairs, lookup}
use Rattle.model.specs.Calls.{write_array, write_entry, append}
use Rattle.model.proofs.Entries.{has-append, find-append-has, find-append-not, put-append-has, put-append-not, keys-append, distinct_append, find_absent}
use Rattle.std.specs.Prelude.{Some}

-- ---- keys with an index below A
pub index-integer : (i : ℕ) → i < largest → array_index (integer (suc i)) ≡ Some i
unfolding array_index
index-integer i h = rw (lt-ltb 0 (suc i) (omega arith), le-leb (suc i) largest h) (ap Some (omega arith))

-- such a key is the Integer of a place
pub record Inside (A : ℕ) (k : Words) : Type 0 where
  pub i : ℕ
  pub i< : i < A
  pub is : k ≡ integer (suc i)
  pub index : array_index k ≡ Some i
  pub small : i < largest

pub inside : (A : ℕ) (k : Words) → within A k ≡ true → Inside A k
unfolding within array_index
inside A k e =
    let t : Bool = eqb k.kind 2 && (ltb 0 k.payload && leb k.payload largest) in
    caseb t
    (λ y. let kind : k.kind ≡ 2 = eqb-true k.kind 2 (and_left (eqb k.kind 2) (ltb 0 k.payload && leb k.payload largest) y) in
    let both : (ltb 0 k.payload && leb k.payload largest) ≡ true = and_right (eqb k.kind 2) (ltb 0 k.payload && leb k.payload largest) y in
    let low : 0 < k.payload = ltb-true 0 k.payload (and_left (ltb 0 k.payload) (leb k.payload largest) both) in
    let high : k.payload ≤ largest = leb-true k.payload largest (and_right (ltb 0 k.payload) (leb k.payload largest) both) in
    let pay : k.payload ≡ suc (k.payload - 1) = omega arith in
    record { i = k.payload - 1; i< = ltb-true (k.payload - 1) A (rw y at e); is = λ j. record { kind = kind j; payload = pay j }; index = rw y; small = omega arith })
    (λ n. absurd (true≢false (sym (rw n at e))))

pub place-within : (A : ℕ) (k : Words) → within A k ≡ true → place_of k < A
place-within A k h = let i = inside A k h in rw i.index i.i<

pub within-integer : (A i : ℕ) → i < A → i < largest → within A (integer (suc i)) ≡ true
unfolding within
within-integer A i h g = rw (index-integer i g) (lt-ltb i A h)

pub outside-integer : (A i : ℕ) → A ≤ i → within A (integer (suc i)) ≡ false
outside-integer A i h =
    caseb (within A (integer (suc i)))
    (λ y. let r : Inside A (integer (suc i)) = inside A (integer (suc i)) y in
    let z : suc i ≡ suc r.i = ap (λ (x : Words). x.payload) r.is in absurd (omega (arith, r.i<)))
    (λ n. n)

pub within_more : (A B : ℕ) (k : Words) → A ≤ B → within B k ≡ false → within A k ≡ false
within_more A B k h e =
    caseb (within A k)
    (λ y. let r : Inside A k = inside A k y in
    clash (ap (within B) r.is ∙ within-integer B r.i (omega (arith, r.i<)) r.small) e)
    (λ n. n)

-- ---- the array's pairs: the key of place i is there, with its value
pub not_first : (n i : ℕ) (k : Words) → k ≡ integer (suc (n + suc i)) → same (integer (suc n)) k ≡ false
not_first n i k p = ne_same (integer (suc n)) k (λ q. let z : suc n ≡ suc (n + suc i) = ap (λ (x : Words). x.payload) (q ∙ p) in omega arith)

pub is-first : (n : ℕ) (k : Words) → k ≡ integer (suc (n + 0)) → same (integer (suc n)) k ≡ true
is-first n k p = eq-same (integer (suc n)) k (sym (p ∙ ap integer (omega arith)))

pub next_place_lem : (n i : ℕ) (k : Words) → k ≡ integer (suc (n + suc i)) → k ≡ integer (suc (suc n + i))
next_place_lem n i k p = p ∙ ap integer (omega arith)

pub find-array : (vs : List Words) (n i : ℕ) (k : Words) → k ≡ integer (suc (n + i)) → i < length vs → find (array_pairs n vs) k ≡ get_or vs i nil
find-array [] n i k p h = absurd (not-suc-le-zero h)
find-array (v ∷ vs) n zero k p h = rw (is-first n k p)
find-array (v ∷ vs) n (suc i) k p h = rw (not_first n i k p) (find-array vs (suc n) i k (next_place_lem n i k p) (le_of_suc-le-suc h))

pub has-array : (vs : List Words) (n i : ℕ) (k : Words) → k ≡ integer (suc (n + i)) → i < length vs → has (array_pairs n vs) k ≡ true
has-array [] n i k p h = absurd (not-suc-le-zero h)
has-array (v ∷ vs) n zero k p h = rw (is-first n k p)
has-array (v ∷ vs) n (suc i) k p h = rw (not_first n i k p) (has-array vs (suc n) i k (next_place_lem n i k p) (le_of_suc-le-suc h))

pub put-array : (vs : List Words) (n i : ℕ) (k v : Words) → k ≡ integer (suc (n + i)) → i < length vs → put (array_pairs n vs) k v ≡ array_pairs n (set vs i v)
put-array [] n i k w p h = absurd (not-suc-le-zero h)
put-array (v ∷ vs) n zero k w p h = rw (is-first n k p)
put-array (v ∷ vs) n (suc i) k w p h =
    rw (not_first n i k p) (ap {B = List Entry} (λ r. entry (integer (suc n)) v ∷ r) (put-array vs (suc n) i k w (next_place_lem n i k p) (le_of_suc-le-suc h)))

-- and no other key is
array-key : (vs : List Words) (n : ℕ) (k : Words) → has (array_pairs n vs) k ≡ true → (i : ℕ) × (n ≤ i) × (i < n + length vs) × (k ≡ integer (suc i))
array-key [] n k e = absurd (true≢false (sym e))
array-key (v ∷ vs) n k e =
    caseb (same (integer (suc n)) k)
    (λ b. (n, omega arith, omega arith, sym (same-eq (integer (suc n)) k b)))
    (λ b. let r : (i : ℕ) × (suc n ≤ i) × (i < suc n + length vs) × (k ≡ integer (suc i)) = array-key vs (suc n) k (rw b at e) in (r.0, omega arith, omega arith, r.3))

pub has-array-within : (vs : List Words) (k : Words) → length vs ≤ largest → has (array_pairs 0 vs) k ≡ within (length vs) k
has-array-within vs k h =
    caseb (within (length vs) k)
    (λ e. let r : Inside (length vs) k = inside (length vs) k e in has-array vs 0 r.i k (r.is ∙ ap integer (omega arith)) r.i< ∙ sym e)
    (λ e. caseb (has (array_pairs 0 vs) k)
    (λ b. let r : (i : ℕ) × (0 ≤ i) × (i < 0 + length vs) × (k ≡ integer (suc i)) = array-key vs 0 k b in
    clash (ap (within (length vs)) r.3 ∙ within-integer (length vs) r.0 (omega arith) (omega arith)) e)
    (λ b. b ∙ sym e))

pub distinct-array : (vs : List Words) (n : ℕ) → distinct (keys_of (array_pairs n vs))
distinct-array [] n = tt
distinct-array (v ∷ vs) n = (
  caseb (has (array_pairs (suc n) vs) (integer (suc n)))
      (λ b. let r : (i : ℕ) × (suc n ≤ i) × (i < suc n + length vs) × (integer (suc n) ≡ integer (suc i)) = array-key vs (suc n) (integer (suc n)) b in
      let z : suc n ≡ suc r.0 = ap (λ (x : Words). x.payload) r.3 in absurd (omega arith))
      (λ b. b),
  distinct-array vs (suc n),
)

-- ---- all pairs of a table whose array has Integers for its keys
pub has-pairs : (t : Table) (k : Words) → length t.array ≤ largest → has (pairs t) k ≡ (within (length t.array) k || has t.entries k)
unfolding pairs
has-pairs t k h = has-append (array_pairs 0 t.array) t.entries k ∙ ap (λ (b : Bool). b || has t.entries k) (has-array-within t.array k h)

-- what holds of Integers and of the entries' keys holds of every key
pub key-of-pairs : (P : Words → Type 0) (t : Table) → length t.array ≤ largest → ((n : ℕ) → P (integer n)) → ((k : Words) → has t.entries k ≡ true → P k) → (k : Words) → has (pairs t) k ≡ true → P k
key-of-pairs P t l f g k h =
    elim (or_cases (within (length t.array) k) (has t.entries k) (sym (has-pairs t k l) ∙ h)) [
      | inl e ↦ let r : Inside (length t.array) k = inside (length t.array) k e in subst P (sym r.is) (f (suc r.i))
      | inr e ↦ g k e
    ]

pub lookup-array : (t : Table) (k : Words) (i : ℕ) → array_index k ≡ Some i → i < length t.array → lookup t k ≡ get_or t.array i nil
unfolding lookup within
lookup-array t k i p h = rw (p, lt-ltb i (length t.array) h)

pub lookup-within : (t : Table) (k : Words) → within (length t.array) k ≡ true → lookup t k ≡ get_or t.array (place_of k) nil
unfolding lookup
lookup-within t k e = rw e

pub lookup-outside : (t : Table) (k : Words) → within (length t.array) k ≡ false → lookup t k ≡ find t.entries k
unfolding lookup
lookup-outside t k e = rw e

pub lookup_absent : (t : Table) (k : Words) → within (length t.array) k ≡ false → has t.entries k ≡ false → lookup t k ≡ nil
lookup_absent t k e h = lookup-outside t k e ∙ find_absent t.entries k h

-- get, as a search of all pairs
pub find-pairs : (t : Table) (k : Words) → length t.array ≤ largest → find (pairs t) k ≡ lookup t k
unfolding pairs
find-pairs t k h =
    caseb (within (length t.array) k)
    (λ e. let r : Inside (length t.array) k = inside (length t.array) k e in
    find-append-has (array_pairs 0 t.array) t.entries k (has-array-within t.array k h ∙ e)
    ∙ find-array t.array 0 r.i k (r.is ∙ ap integer (omega arith)) r.i<
    ∙ sym (lookup-array t k r.i r.index r.i<))
    (λ e. find-append-not (array_pairs 0 t.array) t.entries k (has-array-within t.array k h ∙ e) ∙ sym (lookup-outside t k e))

-- ---- the writes, on all pairs
pub pairs-write_array : (t : Table) (k v : Words) → within (length t.array) k ≡ true → length t.array ≤ largest → pairs (write_array t k v) ≡ put (pairs t) k v
unfolding pairs
pairs-write_array t k v e h =
    let r : Inside (length t.array) k = inside (length t.array) k e in
    ap (λ (i : ℕ). array_pairs 0 (set t.array i v) ++ t.entries) (ap offset r.index)
    ∙ sym (put-append-has (array_pairs 0 t.array) t.entries k v (has-array-within t.array k h ∙ e)
    ∙ ap (λ (l : List Entry). l ++ t.entries) (put-array t.array 0 r.i k v (r.is ∙ ap integer (omega arith)) r.i<))

pub pairs-write_entry : (t : Table) (k v : Words) → within (length t.array) k ≡ false → length t.array ≤ largest → pairs (write_entry t k v) ≡ put (pairs t) k v
unfolding pairs
pairs-write_entry t k v e h = sym (put-append-not (array_pairs 0 t.array) t.entries k v (has-array-within t.array k h ∙ e))

pub pairs-append : (t : Table) (k v : Words) (M : ℕ) → pairs (append t k v M) ≡ pairs t ++ (entry k v ∷ [])
unfolding pairs
pairs-append t k v M = sym (append_assoc (array_pairs 0 t.array) t.entries (entry k v ∷ []))

-- the keys of all pairs are distinct where the entries' are, and none of these is the array's
pub distinct-pairs : (t : Table) → length t.array ≤ largest → distinct (keys_of t.entries) → ((k : Words) → has t.entries k ≡ true → within (length t.array) k ≡ false) → distinct (keys_of (pairs t))
unfolding pairs
distinct-pairs t l d h =
    rw (keys-append (array_pairs 0 t.array) t.entries)
    (distinct_append (keys_of (array_pairs 0 t.array)) (keys_of t.entries) (distinct-array t.array 0) d
    (λ k g. caseb (has t.entries k)
    (λ b. clash (sym (has-array-within t.array k l) ∙ g) (h k b))
    (λ b. b)))
