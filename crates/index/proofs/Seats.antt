-- The laws of entries put in and taken out, at the homes of entries in lent words and as code counts. Assumes nothing.
use Rattle.std.proofs.Common.{◌≡◌, ℕ, suc, ◌+◌, ◌<◌, List, length, get_or, set, sym, refl, ap, ◌∙◌, subst, add-one, arith, length-set}
use Rattle.lent.specs.Lent.{key_at}
use Rattle.index.specs.Index.{homes, index_words, Indexes, seat_of, used}
use Rattle.index.proofs.Home.{home-lt}
use Rattle.index.proofs.Insert.{index-held, taken_out, put_in, all-seated, seated-all}

home-in : (n : ℕ) (ws : List ℕ) → 0 < n → (i : ℕ) → homes n ws i < n
home-in n ws h i = home-lt n (key_at ws i) h

-- ---- the index exactly when e words are in use and each entry is in its seat
module _ (ws l : List ℕ) where
  abbrev pub InSeat : ℕ → Type 0
  InSeat i = get_or l (seat_of l (homes (length l) ws i) i) 0 ≡ i + 1

  pub inserted-used : (e : ℕ) → e < length l → Indexes ws e l → used l ≡ e
  inserted-used e h p = ap used p ∙ (index-held (length l) (homes (length l) ws) e (omega arith) (λ i q. home-in (length l) ws (omega arith) i)).count

  pub inserted-seat : (e : ℕ) → e < length l → Indexes ws e l → (i : ℕ) → i < e → InSeat i
  inserted-seat e h p i lt =
      let n = length l in
      let s = all-seated n (homes n ws) e (omega arith) (λ j q. home-in n ws (omega arith) j) i lt in
      subst (λ (x : List ℕ). get_or x (seat_of x (homes n ws i) i) 0 ≡ i + 1) (sym p) (s ∙ sym (add-one i))

  pub seats-inserted : (e : ℕ) → used l ≡ e → ((i : ℕ) → i < e → InSeat i) → Indexes ws e l
  seats-inserted e u s = seated-all (length l) (homes (length l) ws) e l refl u (λ i lt. s i lt ∙ add-one i)

-- ---- the turns of loops that put entries in and take them out: p is the seat of entry i
module _ (ws l : List ℕ) (i p : ℕ) (h : i < length l) (at : p ≡ seat_of l (homes (length l) ws i) i) where
  abbrev n : ℕ
  n = length l

  seat-in : (e : ℕ) → Indexes ws e l → p ≡ seat_of (index_words n ws e) (homes n ws i) i
  seat-in e q = at ∙ ap (λ (x : List ℕ). seat_of x (homes n ws i) i) q

  pub put_turn : Indexes ws i l → Indexes ws (i + 1) (set l p (i + 1))
  put_turn q =
      rw length-set
      ((λ j. set (q j) (seat-in i q j) (add-one i j))
      ∙ put_in n (homes n ws) i h (λ j r. home-in n ws (omega arith) j)
      ∙ ap (index_words n ws) (sym (add-one i)))

  pub take_turn : Indexes ws (i + 1) l → Indexes ws i (set l p 0)
  take_turn q =
      let r : Indexes ws (suc i) l = rw (← add-one i) q in
      rw length-set ((λ j. set (r j) (seat-in (suc i) r j) 0) ∙ taken_out n (homes n ws) i h (λ j r. home-in n ws (omega arith) j))
