-- There are addresses that are apart, whatever kinds and handles a host uses: two to the kind, times an odd number for the handle. So what is
-- said for all addresses is said of some. Assumes nothing.
use mathlib.Core.Path.{◌≡◌, refl, ap}
use Prim.Native.Nat.{ℕ, zero, suc, ◌+◌}
use native.Mathlib.Omega.{arith}
use Rattle.original.specs.Original.{Addresses}

abbrev place : ℕ → ℕ → ℕ
place zero p = 1 + (p + p)
place (suc k) p = place k p + place k p

place-one : (j k p q : ℕ) → place j p ≡ place k q → (j ≡ k) × (p ≡ q)
place-one zero zero p q e = (refl, omega arith)
place-one zero (suc k) p q e = absurd (omega arith)
place-one (suc j) zero p q e = absurd (omega arith)
place-one (suc j) (suc k) p q e = let rest : (j ≡ k) × (p ≡ q) = place-one j k p q (omega arith) in (ap suc rest.0, rest.1)

pub placed : Addresses
placed =
    record {
      address = λ w. place w.kind w.payload;
      apart = λ j k a b e.
          let one : (j.kind ≡ k.kind) × (j.payload ≡ k.payload) = place-one j.kind k.kind j.payload k.payload e in
          λ i. record { kind = one.0 i; payload = one.1 i };
    }
