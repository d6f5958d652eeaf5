-- Demand 3: `walk`, at every moment of every history that began on a well-formed table. Assumes nothing.
use mathlib.Core.Path.{◌≡◌, refl, sym, ap, subst, ◌∙◌}
use mathlib.Core.Bool.{false}
use mathlib.Core.List.{List, [], append-nil}
use Prim.Native.Nat.{suc, ◌≤◌}
use native.Mathlib.Omega.{arith}
use lib.ListN.{length}
use Rattle.value.specs.declared.Words.{Words}
use Rattle.value.specs.Same.{is_nil}
use Rattle.model.specs.Entries.{Entry, keys_of, NextValue, found, last, not_found}
use Rattle.model.specs.Table.{Room, Table, get_of, next_of}
use Rattle.model.specs.WellFormed.{WellFormed}
use Rattle.model.proofs.Entries.{length-keys}
use Rattle.model.proofs.Next.{get_key}
use Rattle.walk.specs.History.{live_keys, History, begin, still, set, step, Throughout}
use Rattle.walk.specs.Walked.{at_start, TableWalked}
use Rattle.walk.proofs.Lists.{no_longer, first-there}
use Rattle.walk.proofs.Events.{Inv, value_there, next-first, was-set, passed-by, shows, stepped, begun}

holds : {room : Room} {t₀ t : Table} {allowed : List Words} {key : Words} {handed : List Entry} → WellFormed room t₀ → (w : History room t₀ t allowed key handed) → Inv room t₀ t allowed key handed (Throughout w)
holds w₀ begin = begun w₀
holds {room = room} {t₀ = t₀} {allowed = allowed} {key = key} {handed = handed} w₀ (still e w) =
    subst (λ (x : Table). Inv room t₀ x allowed key handed (Throughout w)) (sym e) (holds w₀ w)
holds {room = room} {t₀ = t₀} {allowed = allowed} {key = key} {handed = handed} w₀ (set k v m e w) =
    subst (λ (x : Table). Inv room t₀ x allowed key handed (λ j. (is_nil (get_of x j) ≡ false) × Throughout w j)) (sym e) (was-set (holds w₀ w) k v m)
holds w₀ (step k v n w) = stepped (holds w₀ w) k v n

at_most : {room : Room} {t₀ t : Table} {allowed : List Words} {key : Words} {handed : List Entry} {Through : Words → Type 0} → Inv room t₀ t allowed key handed Through → length handed ≤ at_start t₀
at_most {t₀ = t₀} {handed = handed} i = omega (arith, length-keys handed, no_longer (keys_of handed) (live_keys t₀) i.once i.among)

module _ {room : Room} {t₀ t : Table} {allowed : List Words} {key : Words} {handed : List Entry} {Through : Words → Type 0} (i : Inv room t₀ t allowed key handed Through) where
  ended : length handed ≡ at_start t₀ → (r : NextValue) → next_of t key ≡ r → r ≡ last
  ended q (found k v) n = let more : suc (length handed) ≤ at_start t₀ = at_most (stepped i k v n) in absurd (omega arith)
  ended q last n = refl
  ended q not_found n = absurd (first-there i.after (sym (next-first i) ∙ n))

  walked : TableWalked room t₀ t key handed Through
  walked =
      record {
        well_formed = i.well_formed;
        there = λ n. first-there i.after (sym (next-first i) ∙ n);
        once = i.once;
        shows = λ k v n. shows i k v n;
        few = at_most i;
        ends = λ q. ended q (next_of t key) refl;
        all = λ n j k c th. passed-by i i.after [] (sym (append-nil i.after)) (sym (next-first i) ∙ n) j k c th (rw i.split at (value_there i.well_formed k (ap is_nil (sym (get_key t j k c)) ∙ i.now j th)));
      }

pub walk : {room : Room} {t₀ t : Table} {allowed : List Words} {key : Words} {handed : List Entry} → WellFormed room t₀ → (w : History room t₀ t allowed key handed) → TableWalked room t₀ t key handed (Throughout w)
walk w₀ w = walked (holds w₀ w)
