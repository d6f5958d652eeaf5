-- Laws of lists of entries: search, write, append, and what is kept. Assumes nothing.
use mathlib.Core.Path.{◌≡◌, refl, sym, ap, subst, ◌∙◌}
use mathlib.Core.Bool.{Bool, true, false, cond, ◌||◌, true≢false}
use mathlib.Core.List.{List, [], ◌∷◌, ◌++◌, map, map-append}
use mathlib.Core.Logic.{◌⊎◌, inl, inr}
use Prim.Native.Nat.{ℕ, zero, suc, ◌+◌, ◌≤◌, ◌<◌}
use native.Mathlib.Nat.{le_of_suc-le-suc, not-suc-le-zero}
use native.Mathlib.Omega.{arith}
use lib.ListN.{length, get_or, set, length-map}
use lib.Seq.{ext_get_or}
use Rattle.value.specs.declared.Words.{Words}
use Rattle.value.specs.Same.{same, nil, is_nil}
use Rattle.value.proofs.Cases.{caseb, clash, or_right, never}
use Rattle.value.proofs.Same.{same-eq, same_refl, ne_same, same-sym}
use Rattle.model.specs.Entries.{Entry, entry, keys_of, member, distinct, has, find, put, keep, Each, found, first, from}
use Rattle.model.specs.Growth.{tabulate}

-- a map with v at k
abbrev pub updated : (Words → Words) → Words → Words → Words → Words
updated m k v j = cond (same k j) v (m j)

-- ---- a write keeps the keys
pub put-keys : (l : List Entry) (k v : Words) → keys_of (put l k v) ≡ keys_of l
put-keys [] k v = refl
put-keys (s ∷ ss) k v = caseb (same s.key k) (λ e. rw e) (λ e. rw (e, put-keys ss k v))

pub length-keys : (l : List Entry) → length (keys_of l) ≡ length l
length-keys l = length-map l (λ (s : Entry). s.key)

pub length-put : (l : List Entry) (k v : Words) → length (put l k v) ≡ length l
length-put l k v = sym (length-keys (put l k v)) ∙ ap length (put-keys l k v) ∙ length-keys l

-- ---- lists joined
pub keys-append : (l m : List Entry) → keys_of (l ++ m) ≡ keys_of l ++ keys_of m
keys-append l m = map-append (λ (s : Entry). s.key) l m

pub member-append : (l m : List Words) (k : Words) → member (l ++ m) k ≡ (member l k || member m k)
member-append [] m k = refl
member-append (x ∷ xs) m k = caseb (same x k) (λ e. rw e) (λ e. rw e (member-append xs m k))

pub has-append : (l m : List Entry) (k : Words) → has (l ++ m) k ≡ (has l k || has m k)
has-append l m k = rw (keys-append l m) (member-append (keys_of l) (keys_of m) k)

pub find-append-has : (l m : List Entry) (k : Words) → has l k ≡ true → find (l ++ m) k ≡ find l k
find-append-has [] m k h = absurd (true≢false (sym h))
find-append-has (s ∷ ss) m k h = caseb (same s.key k) (λ e. rw e) (λ e. rw e (find-append-has ss m k (rw e at h)))

pub find-append-not : (l m : List Entry) (k : Words) → has l k ≡ false → find (l ++ m) k ≡ find m k
find-append-not [] m k h = refl
find-append-not (s ∷ ss) m k h = caseb (same s.key k) (λ e. absurd (true≢false (rw e at h))) (λ e. rw e (find-append-not ss m k (rw e at h)))

pub put-append-has : (l m : List Entry) (k v : Words) → has l k ≡ true → put (l ++ m) k v ≡ put l k v ++ m
put-append-has [] m k v h = absurd (true≢false (sym h))
put-append-has (s ∷ ss) m k v h =
    caseb (same s.key k) (λ e. rw e)
    (λ e. rw e (ap {B = List Entry} (λ r. s ∷ r) (put-append-has ss m k v (rw e at h))))

pub put-append-not : (l m : List Entry) (k v : Words) → has l k ≡ false → put (l ++ m) k v ≡ l ++ put m k v
put-append-not [] m k v h = refl
put-append-not (s ∷ ss) m k v h =
    caseb (same s.key k) (λ e. absurd (true≢false (rw e at h)))
    (λ e. rw e (ap {B = List Entry} (λ r. s ∷ r) (put-append-not ss m k v (rw e at h))))

-- ---- what a search finds
pub find_absent : (l : List Entry) (k : Words) → has l k ≡ false → find l k ≡ nil
find_absent [] k h = refl
find_absent (s ∷ ss) k h = caseb (same s.key k) (λ e. absurd (true≢false (rw e at h))) (λ e. rw e (find_absent ss k (rw e at h)))

pub find-put : (l : List Entry) (k v j : Words) → has l k ≡ true → find (put l k v) j ≡ updated (find l) k v j
find-put [] k v j h = absurd (true≢false (sym h))
find-put (s ∷ ss) k v j h =
    caseb (same s.key k)
    (λ e. let p : s.key ≡ k = same-eq s.key k e in rw (e, p) (caseb (same k j) (λ b. rw b) (λ b. rw b)))
    (λ e. rw e (caseb (same s.key j)
    (λ b. let d : same k j ≡ false = same-sym j k (subst (λ (x : Words). same x k ≡ false) (same-eq s.key j b) e) in rw (b, d))
    (λ b. rw b (find-put ss k v j (rw e at h)))))

pub find-snoc : (l : List Entry) (k v j : Words) → has l k ≡ false → find (l ++ (entry k v ∷ [])) j ≡ updated (find l) k v j
find-snoc l k v j h =
    caseb (has l j)
    (λ b. let d : same k j ≡ false = ne_same k j (λ p. clash b (subst (λ (x : Words). has l x ≡ false) p h)) in rw d (find-append-has l (entry k v ∷ []) j b))
    (λ b. rw (find-append-not l (entry k v ∷ []) j b, find_absent l j b))

pub has-snoc : (l : List Entry) (k v j : Words) → has (l ++ (entry k v ∷ [])) j ≡ true → (has l j ≡ true) ⊎ (k ≡ j)
has-snoc l k v j h =
    let g : (has l j || (same k j || false)) ≡ true = rw (has-append l (entry k v ∷ []) j) at h in
    caseb (has l j) (λ e. inl e) (λ e. caseb (same k j) (λ b. inr (same-eq k j b)) (λ b. absurd (true≢false (sym (rw (e, b) at g)))))

-- ---- what is kept
pub has-keep : (p : Entry → Bool) (l : List Entry) (k : Words) → has l k ≡ false → has (keep p l) k ≡ false
has-keep p [] k h = refl
has-keep p (s ∷ ss) k h =
    caseb (same s.key k) (λ e. absurd (true≢false (rw e at h)))
    (λ e. caseb (p s) (λ b. rw (b, e) (has-keep p ss k (rw e at h))) (λ b. rw b (has-keep p ss k (rw e at h))))

-- a key that is dropped only where its value is Nil keeps its value
pub find-keep : (p : Entry → Bool) (l : List Entry) (k : Words) → distinct (keys_of l) → ((s : Entry) → s.key ≡ k → p s ≡ false → s.value ≡ nil) → find (keep p l) k ≡ find l k
find-keep p [] k d h = refl
find-keep p (s ∷ ss) k d h =
    caseb (p s)
    (λ b. rw b (ap (λ (x : Words). cond (same s.key k) s.value x) (find-keep p ss k d.1 h)))
    (λ b. caseb (same s.key k)
    (λ e. let q : s.key ≡ k = same-eq s.key k e in
    let n : has ss k ≡ false = subst (λ (x : Words). has ss x ≡ false) q d.0 in
    rw (b, e) (find_absent (keep p ss) k (has-keep p ss k n) ∙ sym (h s q b)))
    (λ e. rw (b, e) (find-keep p ss k d.1 h)))

pub keep_snoc : {X : Type 0} (p : X → Bool) (l : List X) (x : X) → keep p (l ++ (x ∷ [])) ≡ keep p l ++ keep p (x ∷ [])
keep_snoc p [] x = refl
keep_snoc p (y ∷ ys) x = caseb (p y) (λ e. rw (e, keep_snoc p ys x)) (λ e. rw (e, keep_snoc p ys x))

pub keep_all : {X : Type 0} (p : X → Bool) (l : List X) → Each (λ (x : X). p x ≡ true) l → keep p l ≡ l
keep_all p [] a = refl
keep_all p (x ∷ xs) a = rw (a.0, keep_all p xs a.1)

pub length-keep : {X : Type 0} (p : X → Bool) (l : List X) → length (keep p l) ≤ length l
length-keep p [] = omega arith
length-keep p (s ∷ ss) = let h : length (keep p ss) ≤ length ss = length-keep p ss in caseb (p s) (λ e. rw e (omega arith)) (λ e. rw e (omega arith))

-- ---- distinct keys
pub distinct_append : (l m : List Words) → distinct l → distinct m → ((k : Words) → member l k ≡ true → member m k ≡ false) → distinct (l ++ m)
distinct_append [] m d e h = e
distinct_append (x ∷ xs) m d e h = (
  member-append xs m x ∙ rw d.0 (h x (rw (same_refl x))),
  distinct_append xs m d.1 e (λ k g. h k (or_right (same x k) (member xs k) g)),
)

pub distinct_snoc : (l : List Words) (k : Words) → distinct l → member l k ≡ false → distinct (l ++ (k ∷ []))
distinct_snoc l k d h = distinct_append l (k ∷ []) d (refl, tt) (λ x g. rw (ne_same k x (λ p. clash g (subst (λ (y : Words). member l y ≡ false) p h))))

pub distinct-keep : (p : Entry → Bool) (l : List Entry) → distinct (keys_of l) → distinct (keys_of (keep p l))
distinct-keep p [] d = tt
distinct-keep p (s ∷ ss) d =
    caseb (p s)
    (λ e. rw e (has-keep p ss s.key d.0, distinct-keep p ss d.1))
    (λ e. rw e (distinct-keep p ss d.1))

-- ---- what holds of each
pub each_append : {X : Type 0} (P : X → Type 0) (l m : List X) → Each P l → Each P m → Each P (l ++ m)
each_append P [] m a b = b
each_append P (x ∷ xs) m a b = (a.0, each_append P xs m a.1 b)

-- what is kept has passed the test
pub each_keep : {X : Type 0} (P Q : X → Type 0) (p : X → Bool) (l : List X) → ((x : X) → p x ≡ true → P x → Q x) → Each P l → Each Q (keep p l)
each_keep P Q p [] f a = tt
each_keep P Q p (x ∷ xs) f a = caseb (p x) (λ e. rw e (f x e a.0, each_keep P Q p xs f a.1)) (λ e. rw e (each_keep P Q p xs f a.1))

pub each_map : {X Y : Type 0} (P : X → Type 0) (Q : Y → Type 0) (g : X → Y) (l : List X) → ((x : X) → P x → Q (g x)) → Each P l → Each Q (map g l)
each_map P Q g [] f a = tt
each_map P Q g (x ∷ xs) f a = (f x a.0, each_map P Q g xs f a.1)

-- what holds of each key holds of a key that is there
pub each-key : (P : Words → Type 0) (Q : Entry → Type 0) (l : List Entry) → ((s : Entry) → Q s → P s.key) → Each Q l → (k : Words) → has l k ≡ true → P k
each-key P Q [] f a k h = absurd (true≢false (sym h))
each-key P Q (s ∷ ss) f a k h = caseb (same s.key k) (λ e. subst P (same-eq s.key k e) (f s a.0)) (λ e. each-key P Q ss f a.1 k (rw e at h))

pub each-put : (P : Entry → Type 0) (l : List Entry) (k v : Words) → ((s : Entry) → P s → P (entry s.key v)) → Each P l → Each P (put l k v)
each-put P [] k v f a = tt
each-put P (s ∷ ss) k v f a = caseb (same s.key k) (λ e. rw e (f s a.0, a.1)) (λ e. rw e (a.0, each-put P ss k v f a.1))

pub each_set : {X : Type 0} (P : X → Type 0) (l : List X) (i : ℕ) (x : X) → P x → Each P l → Each P (set l i x)
each_set P [] i x h a = a
each_set P (y ∷ ys) zero x h a = (h, a.1)
each_set P (y ∷ ys) (suc i) x h a = (a.0, each_set P ys i x h a.1)

pub each-tabulate : {X : Type 0} (P : X → Type 0) (n : ℕ) (f : ℕ → X) (i : ℕ) → ((j : ℕ) → i ≤ j → j < i + n → P (f j)) → Each P (tabulate n f i)
each-tabulate P zero f i h = tt
each-tabulate P (suc n) f i h = (h i (omega arith) (omega arith), each-tabulate P n f (suc i) (λ j a b. h j (omega arith) (omega arith)))

-- what a walk hands out is a pair of the list
module _ (P : Entry → Type 0) (k v : Words) where
  pub each_first : (l : List Entry) → Each P l → first l ≡ found k v → P (entry k v)
  each_first [] a h = never (cc)
  each_first (s ∷ ss) a h =
      caseb (is_nil s.value)
      (λ e. each_first ss a.1 (rw e at h))
      (λ e. let q : found s.key s.value ≡ found k v = rw e at h in let p : entry s.key s.value ≡ entry k v = cc in subst P p a.0)

  pub each_from : (l : List Entry) (j : Words) → Each P l → from l j ≡ found k v → P (entry k v)
  each_from [] j a h = never (cc)
  each_from (s ∷ ss) j a h = caseb (same s.key j) (λ e. each_first ss a.1 (rw e at h)) (λ e. each_from ss j a.1 (rw e at h))

-- ---- by place
pub each_at : {X : Type 0} (P : X → Type 0) (d : X) (l : List X) → Each P l → (i : ℕ) → i < length l → P (get_or l i d)
each_at P d [] a i h = absurd (not-suc-le-zero h)
each_at P d (x ∷ xs) a zero h = a.0
each_at P d (x ∷ xs) a (suc i) h = each_at P d xs a.1 i (le_of_suc-le-suc h)

pub member-at : (l : List Words) (i : ℕ) → i < length l → member l (get_or l i nil) ≡ true
member-at [] i h = absurd (not-suc-le-zero h)
member-at (x ∷ xs) zero h = rw (same_refl x)
member-at (x ∷ xs) (suc i) h = or_right (same x (get_or xs i nil)) (member xs (get_or xs i nil)) (member-at xs i (le_of_suc-le-suc h))

pub member-place : (l : List Words) (k : Words) → member l k ≡ true → (i : ℕ) × (i < length l) × (get_or l i nil ≡ k)
member-place [] k h = absurd (true≢false (sym h))
member-place (x ∷ xs) k h =
    caseb (same x k)
    (λ e. (0, omega arith, same-eq x k e))
    (λ e. let r : (i : ℕ) × (i < length xs) × (get_or xs i nil ≡ k) = member-place xs k (rw e at h) in (suc r.0, omega arith, r.2))

-- no two places have one key
abbrev pub Apart : List Words → Type 0
Apart l = (i j : ℕ) → i < length l → j < length l → get_or l i nil ≡ get_or l j nil → i ≡ j

pub distinct_apart : (l : List Words) → distinct l → Apart l
distinct_apart [] d i j a b p = absurd (not-suc-le-zero a)
distinct_apart (x ∷ xs) d zero zero a b p = refl
distinct_apart (x ∷ xs) d zero (suc j) a b p = clash (rw (← p) at (member-at xs j (le_of_suc-le-suc b))) d.0
distinct_apart (x ∷ xs) d (suc i) zero a b p = clash (rw p at (member-at xs i (le_of_suc-le-suc a))) d.0
distinct_apart (x ∷ xs) d (suc i) (suc j) a b p = ap suc (distinct_apart xs d.1 i j (le_of_suc-le-suc a) (le_of_suc-le-suc b) p)

pub apart_distinct : (l : List Words) → Apart l → distinct l
apart_distinct [] h = tt
apart_distinct (x ∷ xs) h = (
  caseb (member xs x)
      (λ e. let r : (i : ℕ) × (i < length xs) × (get_or xs i nil ≡ x) = member-place xs x e in
      absurd (omega (arith, h 0 (suc r.0) (omega arith) (omega arith) (sym r.2))))
      (λ e. e),
  apart_distinct xs (λ i j a b p. omega (arith, h (suc i) (suc j) (omega arith) (omega arith) p)),
)

-- ---- an array made anew
pub length-tabulate : {X : Type 0} (n : ℕ) (f : ℕ → X) (i : ℕ) → length (tabulate n f i) ≡ n
length-tabulate zero f i = refl
length-tabulate (suc n) f i = ap suc (length-tabulate n f (suc i))

pub get_d_tabulate : {X : Type 0} (n : ℕ) (f : ℕ → X) (d : X) (i j : ℕ) → j < n → get_or (tabulate n f i) j d ≡ f (i + j)
get_d_tabulate zero f d i j h = absurd (not-suc-le-zero h)
get_d_tabulate (suc n) f d i zero h = ap f (omega arith)
get_d_tabulate (suc n) f d i (suc j) h = get_d_tabulate n f d (suc i) j (le_of_suc-le-suc h) ∙ ap f (omega arith)

pub tabulate-at : {X : Type 0} (n : ℕ) (f : ℕ → X) (d : X) (i : ℕ) → i < n → get_or (tabulate n f 0) i d ≡ f i
tabulate-at n f d i h = get_d_tabulate n f d 0 i h ∙ ap f (omega arith)

pub tabulate-each : {X : Type 0} (P : X → Type 0) (d : X) (n : ℕ) (f : ℕ → X) → Each P (tabulate n f 0) → (i : ℕ) → i < n → P (f i)
tabulate-each P d n f a i h = subst P (tabulate-at n f d i h) (each_at P d (tabulate n f 0) a i (omega (arith, length-tabulate n f 0)))

-- a list, made anew by place
pub tabulate-is : {X : Type 0} (l : List X) (f : ℕ → X) (d : X) → ((i : ℕ) → i < length l → f i ≡ get_or l i d) → tabulate (length l) f 0 ≡ l
tabulate-is l f d p =
    let len : length (tabulate (length l) f 0) ≡ length l = length-tabulate (length l) f 0 in
    ext_get_or d (tabulate (length l) f 0) l len (λ i h. tabulate-at (length l) f d i (omega arith) ∙ p i (omega arith))

pub map-tabulate : {X Y : Type 0} (g : X → Y) (n : ℕ) (f : ℕ → X) (i : ℕ) → map g (tabulate n f i) ≡ tabulate n (λ j. g (f j)) i
map-tabulate g zero f i = refl
map-tabulate {Y = Y} g (suc n) f i = ap {B = List Y} (λ r. g (f i) ∷ r) (map-tabulate g n f (suc i))

pub tabulate-snoc : {X : Type 0} (n : ℕ) (f : ℕ → X) (i : ℕ) → tabulate (suc n) f i ≡ tabulate n f i ++ (f (i + n) ∷ [])
tabulate-snoc {X = X} zero f i = ap {B = List X} (λ j. f j ∷ []) (omega arith)
tabulate-snoc {X = X} (suc n) f i =
    ap {B = List X} (λ r. f i ∷ r) (tabulate-snoc n f (suc i) ∙ ap {B = List X} (λ j. tabulate n f (suc i) ++ (f j ∷ [])) (omega arith))

pub tabulate-cong : {X : Type 0} (n : ℕ) (f g : ℕ → X) (i : ℕ) → ((j : ℕ) → i ≤ j → j < i + n → f j ≡ g j) → tabulate n f i ≡ tabulate n g i
tabulate-cong zero f g i h = refl
tabulate-cong (suc n) f g i h = rw (h i (omega arith) (omega arith), tabulate-cong n f g (suc i) (λ j a b. h j (omega arith) (omega arith)))
