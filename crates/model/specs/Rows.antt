-- 01's sequences P1 to P11 written down, and others where the rules turn: a row has its room, the calls in order, and what each must answer.
-- Assumes nothing.
use Rattle.std.specs.Prelude.{Bool, true, false, ◌&&◌, List, [], ◌∷◌, ◌++◌, map, ℕ, zero, suc, ◌^◌, eqb, length}
use Rattle.value.specs.declared.Words.{Words}
use Rattle.value.specs.Encoding.{words}
use Rattle.value.specs.Same.{nil}
use Rattle.key.specs.Canonical.{integer, number, largest}
use Rattle.model.specs.Entries.{Entry, entry, NextValue, found, last, not_found}
use Rattle.model.specs.Table.{Room, Table, fresh, get_of, next_of}
use Rattle.model.specs.Calls.{Outcome, set_of, reserve_of}
use Rattle.model.specs.Length.{length_of}

-- the record answers A, M and E
pub data Question : Type 0 where
  get : Words → Question
  set : Words → Words → Question
  next : Words → Question
  length? : Question
  reserve : ℕ → Question
  record? : Question

-- an answer in numbers: a value is its kind and payload; `next` has 0, 1 or 2 before the pair, Last and NotFound
abbrev pub numbers : Words → List ℕ
numbers v = v.kind ∷ v.payload ∷ []

abbrev pub next_value : NextValue → List ℕ
next_value (found k v) = 0 ∷ numbers k ++ numbers v
next_value last = 1 ∷ []
next_value not_found = 2 ∷ []

pub record Reply : Type 0 where
  pub gave : List ℕ
  pub after : Table

abbrev pub reply : List ℕ → Table → Reply
reply xs t = record { gave = xs; after = t }

abbrev pub told : Outcome → Reply
told o = reply (o.refusal ∷ numbers o.previous) o.table

abbrev pub answer : Room → Table → Question → Reply
answer room t (get k) = reply (numbers (get_of t k)) t
answer room t (set k v) = told (set_of room t k v)
answer room t (next k) = reply (next_value (next_of t k)) t
answer room t length? = reply (length_of t ∷ []) t
answer room t (reserve n) = told (reserve_of room t n)
answer room t record? = reply (length t.array ∷ t.allowance ∷ length t.entries ∷ []) t

abbrev pub equal : List ℕ → List ℕ → Bool
equal [] [] = true
equal [] (y ∷ ys) = false
equal (x ∷ xs) [] = false
equal (x ∷ xs) (y ∷ ys) = eqb x y && equal xs ys

pub record Line : Type 0 where
  pub asks : Question
  pub wants : List ℕ

infixr 60 ◌gives◌
abbrev pub ◌gives◌ : Question → List ℕ → Line
◌gives◌ c xs = record { asks = c; wants = xs }

abbrev pub holds : Room → Table → List Line → Bool
holds room t [] = true
holds room t (l ∷ ls) = let r = answer room t l.asks in equal r.gave l.wants && holds room r.after ls

pub record Row : Type 0 where
  pub room : Room
  pub lines : List Line

-- room for a array values and e entries, under c class counts; 01's are seventeen
abbrev pub row_of : ℕ → ℕ → ℕ → List Line → Row
row_of a e c ls = record { room = record { array_room = a; entry_room = e; classes = c }; lines = ls }

abbrev pub row : ℕ → ℕ → List Line → Row
row a e ls = row_of a e 17 ls

abbrev pub every : List Row → Bool
every [] = true
every (r ∷ rs) = holds r.room fresh r.lines && every rs

-- ---- the rows
abbrev yes : Words
yes = words 1 1

abbrev string : ℕ → Words
string h = words 4 h

abbrev a_nan : Words
a_nan = number 0x7ff8000000000000

-- done, with this value before; with Nil, with yes
abbrev was : Words → List ℕ
was v = 0 ∷ numbers v

abbrev done : List ℕ
done = was nil

abbrev done_yes : List ℕ
done_yes = was yes

abbrev int : ℕ → Line
int n = set (integer n) yes gives done

abbrev str : ℕ → Line
str h = set (string h) yes gives done

-- A, M, E
abbrev sizes : ℕ → ℕ → ℕ → Line
sizes a m e = record? gives (a ∷ m ∷ e ∷ [])

-- the walk hands out these pairs, or these keys, all with yes, and then ends
abbrev hands : Words → List Entry → List Line
hands from [] = (next from gives (1 ∷ [])) ∷ []
hands from (s ∷ ss) = (next from gives (0 ∷ numbers s.key ++ numbers s.value)) ∷ hands s.key ss

abbrev walks : Words → List Words → List Line
walks from ks = hands from (map (λ k. entry k yes) ks)

abbrev powers : ℕ → ℕ → List Line
powers zero i = []
powers (suc n) i = int (2 ^ i) ∷ powers n (suc i)

abbrev pub p1 : List Line
p1 = int 1 ∷ sizes 1 0 0 ∷ int 2 ∷ sizes 2 0 0 ∷ int 3 ∷ sizes 4 0 0 ∷ int 4 ∷ sizes 4 0 0 ∷ int 5 ∷ sizes 8 0 0 ∷ []

abbrev pub p2 : List Line
p2 = int 3 ∷ int 2 ∷ int 1 ∷ int 4 ∷ sizes 0 4 4
    ∷ walks nil (integer 3 ∷ integer 2 ∷ integer 1 ∷ integer 4 ∷ []) ++ ((length? gives (4 ∷ [])) ∷ [])

abbrev pub p3 : List Line
p3 = p2 ++ (int 5 ∷ sizes 8 4 0 ∷ walks nil (integer 1 ∷ integer 2 ∷ integer 3 ∷ integer 4 ∷ integer 5 ∷ []))

abbrev pub p4 : List Line
p4 = str 1 ∷ str 2 ∷ str 3 ∷ str 4 ∷ (set (string 5) yes gives (3 ∷ numbers nil)) ∷ sizes 0 4 4 ∷ []

abbrev pub p5 : List Line
p5 = p4 ++ ((set (string 2) nil gives done_yes) ∷ str 5 ∷ (next (string 2) gives (2 ∷ [])) ∷ walks nil (string 1 ∷ string 3 ∷ string 4 ∷ string 5 ∷ []))

abbrev pub p6 : List Line
p6 = p4
    ++ ((set (string 1) (integer 7) gives done_yes)
    ∷ (next nil gives (0 ∷ numbers (string 1) ++ numbers (integer 7)))
    ∷ walks (string 1) (string 2 ∷ string 3 ∷ string 4 ∷ []))

abbrev pub p7 : List Line
p7 = (set (number 0x8000000000000000) yes gives done) ∷ (get (integer 0) gives numbers yes) ∷ sizes 0 4 1 ∷ []

abbrev pub p8 : List Line
p8 = p7 ++ ((set a_nan nil gives (2 ∷ numbers nil)) ∷ [])

abbrev pub p9 : List Line
p9 = p7 ++ ((get nil gives numbers nil) ∷ [])

abbrev pub p10 : List Line
p10 = (reserve 64 gives done) ∷ powers 63 0 ++ (int largest ∷ (length? gives (largest ∷ [])) ∷ [])

abbrev pub p11 : List Line
p11 = p10 ++ ((set (integer largest) nil gives done_yes) ∷ (length? gives (2 ∷ [])) ∷ [])

-- ---- where the rules turn
abbrev ints : ℕ → ℕ → List Line
ints zero n = []
ints (suc d) n = int (suc n) ∷ ints d (suc n)

abbrev strs : ℕ → ℕ → List Line
strs zero h = []
strs (suc d) h = str (suc h) ∷ strs d (suc h)

abbrev clear : Words → Line
clear k = set k nil gives done_yes

abbrev length_is : ℕ → Line
length_is n = length? gives (n ∷ [])

-- M doubles at a fifth and a ninth entry, as far as the room goes
abbrev pub doubling : List Line
doubling = strs 5 0 ++ (sizes 0 8 5 ∷ strs 4 5 ++ (sizes 0 12 9 ∷ []))

-- six of eight entries cleared: the ninth key finds their places, and 8 are allowed still
abbrev pub staying : List Line
staying = strs 8 0 ++ (sizes 0 8 8 ∷ clear (string 1) ∷ clear (string 2) ∷ clear (string 3) ∷ clear (string 4) ∷ clear (string 5) ∷ clear (string 6) ∷ str 9 ∷ sizes 0 8 3 ∷ [])

-- an array of more than 8 values; a new key past S is not counted below it; a value in an entry is
abbrev pub sized : List Line
sized =
    ints 8 0
    ++ (sizes 8 0 0 ∷ int 1000 ∷ sizes 8 4 1 ∷ int 10 ∷ sizes 8 4 2 ∷ int 9 ∷ sizes 8 4 3 ∷ str 1 ∷ sizes 8 4 4 ∷ str 2 ∷ sizes 16 8 3 ∷ length_is 10 ∷ [])

-- the array never passes a: 9 candidates below 16 need room for 16
abbrev pub roomless : List Line
roomless = ints 9 0 ++ (sizes 8 4 1 ∷ [])

-- after a NaN comes nothing, nor after a key that is not there
abbrev pub lost : List Line
lost = int 1 ∷ (next a_nan gives (2 ∷ [])) ∷ (next (integer 2) gives (2 ∷ [])) ∷ (next (number 0x3ff0000000000000) gives (1 ∷ [])) ∷ []

-- the array ends in Nil, or in a value with a Nil before it; entries go on from there
abbrev pub bordered : List Line
bordered =
    ints 4 0
    ++ (str 1 ∷ clear (integer 2) ∷ length_is 4 ∷ int 5 ∷ sizes 4 4 2 ∷ length_is 5 ∷ clear (integer 5) ∷ length_is 4 ∷ clear (integer 4) ∷ length_is 1 ∷ [])

-- two entries, one cleared: 2 more fit as they stand, 4 more never do, 3 more do once it is dropped, and M never falls
abbrev pub reserves : List Line
reserves =
    (reserve 4 gives done)
    ∷ str 1
    ∷ str 2
    ∷ clear (string 1)
    ∷ (reserve 2 gives done)
    ∷ sizes 0 4 2
    ∷ (reserve 4 gives (3 ∷ numbers nil))
    ∷ walks (string 1) (string 2 ∷ [])
    ++ ((reserve 3 gives done)
    ∷ sizes 0 4 1
    ∷ (next (string 1) gives (2 ∷ []))
    ∷ strs 3 2
    ++ (clear (string 3) ∷ clear (string 4) ∷ (reserve 1 gives done) ∷ sizes 0 4 2 ∷ []))

-- ---- set
-- the previous value, on every way that a set can go
abbrev pub answered : List Line
answered =
    int 1 ∷ (set (integer 1) (integer 7) gives done_yes) ∷ (set (integer 1) nil gives was (integer 7)) ∷ int 1 ∷ str 1 ∷ str 2
    ∷ (set (string 2) (integer 8) gives done_yes) ∷ (get (string 2) gives numbers (integer 8)) ∷ (set (string 2) nil gives was (integer 8)) ∷ str 2
    ∷ (set (string 3) nil gives done) ∷ sizes 1 4 2 ∷ int 2 ∷ sizes 1 4 3 ∷ []

-- Nil is refused as 1 and a NaN as 2, also when the value is Nil; neither has a value
abbrev pub keyless : List Line
keyless =
    int 1 ∷ (set nil yes gives (1 ∷ numbers nil)) ∷ (set nil nil gives (1 ∷ numbers nil)) ∷ (set a_nan yes gives (2 ∷ numbers nil))
    ∷ (get a_nan gives numbers nil) ∷ (get nil gives numbers nil) ∷ sizes 1 0 0 ∷ []

-- words that are no value's are refused as 15, before a Nil key, a NaN and want of room: a kind above 9, a Nil with a payload, a Boolean
-- above 1, as the key and as the value; the last words that are a value's are taken
abbrev refused_as_none : Words → Words → Line
refused_as_none k v = set k v gives (15 ∷ numbers nil)

abbrev pub unvalued : List Line
unvalued =
    str 1 ∷ refused_as_none (words 10 1) yes ∷ refused_as_none (words 0 1) yes ∷ refused_as_none (words 1 2) yes
    ∷ refused_as_none (string 1) (words 10 1) ∷ refused_as_none (string 1) (words 0 1) ∷ refused_as_none (string 1) (words 1 2)
    ∷ refused_as_none nil (words 10 1) ∷ refused_as_none a_nan (words 1 2) ∷ refused_as_none (string 2) (words 0 1)
    ∷ (set (string 2) yes gives (3 ∷ numbers nil)) ∷ (set (string 1) (words 9 1) gives done_yes) ∷ (get (string 1) gives numbers (words 9 1)) ∷ []

-- 2 ^ 63 is the largest integer's key, and -2 ^ 63 the smallest's
abbrev pub saturated : List Line
saturated =
    (set (number 0x43e0000000000000) (integer 7) gives done)
    ∷ (get (integer largest) gives numbers (integer 7))
    ∷ (set (number 0xc3e0000000000000) (integer 8) gives done)
    ∷ hands nil (entry (integer largest) (integer 7) ∷ entry (integer (suc largest)) (integer 8) ∷ [])

-- ---- candidates
-- a cleared entry is no candidate, and does not hide those after it
abbrev pub uncounted : List Line
uncounted = int 2 ∷ clear (integer 2) ∷ str 1 ∷ str 2 ∷ str 3 ∷ int 1 ∷ sizes 1 4 3 ∷ []

abbrev pub unhidden : List Line
unhidden = int 3 ∷ int 2 ∷ clear (integer 3) ∷ int 1 ∷ sizes 2 2 0 ∷ []

-- index 2 is not below 2; one of two is not more than half; three of four are
abbrev pub halfway : List Line
halfway = int 3 ∷ sizes 0 1 1 ∷ int 1 ∷ sizes 1 1 1 ∷ int 2 ∷ sizes 4 1 0 ∷ []

-- three class counts leave out indices from 4 up
abbrev pub classed : List Line
classed = ints 5 0 ++ (sizes 4 4 1 ∷ [])

-- ---- growth
-- values go with their keys, what stays keeps its order, and the array comes first in a walk
abbrev pub moved : List Line
moved =
    (set (string 1) (integer 11) gives done)
    ∷ (set (integer 3) (integer 13) gives done)
    ∷ (set (string 2) (integer 12) gives done)
    ∷ (set (integer 2) (integer 14) gives done)
    ∷ (set (integer 1) (integer 15) gives done)
    ∷ sizes 4 4 2
    ∷ hands nil (entry (integer 1) (integer 15) ∷ entry (integer 2) (integer 14) ∷ entry (integer 3) (integer 13) ∷ entry (string 1) (integer 11) ∷ entry (string 2) (integer 12) ∷ [])

-- an entry whose index is just past the array stays an entry
abbrev pub unmoved : List Line
unmoved = int 2 ∷ str 1 ∷ int 1 ∷ sizes 1 2 2 ∷ walks nil (integer 1 ∷ integer 2 ∷ string 1 ∷ [])

-- an array with one value left keeps its size
abbrev pub unshrunk : List Line
unshrunk = ints 4 0 ++ (clear (integer 2) ∷ clear (integer 3) ∷ clear (integer 4) ∷ str 1 ∷ sizes 4 4 1 ∷ int 4 ∷ sizes 4 4 1 ∷ [])

-- ---- the allowance
-- M stays where the new key goes to the array, though three entries remain of four allowed
abbrev pub spared : List Line
spared = strs 3 0 ++ (int 2 ∷ int 1 ∷ sizes 2 4 3 ∷ [])

-- three entries remain of six allowed, which is half, and of seven, which is less
abbrev pub three_of_six : List Line
three_of_six = (reserve 6 gives done) ∷ strs 6 0 ++ (clear (string 1) ∷ clear (string 2) ∷ clear (string 3) ∷ str 7 ∷ sizes 0 12 4 ∷ [])

abbrev pub three_of_seven : List Line
three_of_seven = (reserve 7 gives done) ∷ strs 7 0 ++ (clear (string 1) ∷ clear (string 2) ∷ clear (string 3) ∷ clear (string 4) ∷ str 8 ∷ sizes 0 7 4 ∷ [])

-- 4 at least, as far as the room goes
abbrev pub four_at_least : List Line
four_at_least = (reserve 1 gives done) ∷ str 1 ∷ sizes 0 1 1 ∷ str 2 ∷ sizes 0 4 2 ∷ []

abbrev pub three_at_most : List Line
three_at_most = str 1 ∷ sizes 0 3 1 ∷ []

-- a reserve allows just what it must, and leaves the array as it was
abbrev pub allowed : List Line
allowed =
    (reserve 3 gives done) ∷ sizes 0 3 0 ∷ int 1 ∷ str 1 ∷ str 2 ∷ int 2 ∷ sizes 2 3 2 ∷ clear (string 1)
    ∷ (reserve 4 gives done) ∷ sizes 2 5 1 ∷ walks nil (integer 1 ∷ integer 2 ∷ string 2 ∷ [])

-- ---- next
-- an empty table, and one whose values are all cleared
abbrev pub emptied : List Line
emptied = (next nil gives (1 ∷ [])) ∷ (next (integer 1) gives (2 ∷ [])) ∷ length_is 0 ∷ int 1 ∷ str 1 ∷ clear (integer 1) ∷ clear (string 1) ∷ walks nil [] ++ (length_is 0 ∷ [])

-- a walk goes on from an array's Nil and from a cleared entry, and both keep their places while others are added
abbrev pub gaps : List Line
gaps =
    ints 3 0
    ++ (str 1 ∷ str 2 ∷ clear (integer 2) ∷ clear (string 1) ∷ str 3 ∷ sizes 4 4 3
    ∷ walks nil (integer 1 ∷ integer 3 ∷ string 2 ∷ string 3 ∷ [])
    ++ walks (integer 2) (integer 3 ∷ string 2 ∷ string 3 ∷ [])
    ++ walks (integer 4) (string 2 ∷ string 3 ∷ [])
    ++ walks (string 1) (string 2 ∷ string 3 ∷ [])
    ++ ((next (integer 5) gives (2 ∷ [])) ∷ (next (string 4) gives (2 ∷ [])) ∷ []))

-- ---- length
-- halving between 0 and A, with several borders
abbrev pub halving : List Line
halving =
    ints 8 0
    ++ (length_is 8 ∷ clear (integer 8) ∷ length_is 7 ∷ clear (integer 3) ∷ length_is 7 ∷ clear (integer 6) ∷ length_is 5
    ∷ clear (integer 4) ∷ length_is 2 ∷ clear (integer 2) ∷ length_is 1 ∷ clear (integer 1) ∷ length_is 0 ∷ [])

-- doubling goes on past a cleared entry
abbrev pub doubled : List Line
doubled = int 1 ∷ int 2 ∷ clear (integer 1) ∷ length_is 2 ∷ clear (integer 2) ∷ length_is 0 ∷ []

-- doubling from A + 1 goes by 5, 10 and 20; halving then looks at 12, 8 and 10, or at 12, 8, 6 and 5
abbrev pub doublings : List Line
doublings = ints 4 0 ++ (str 1 ∷ int 10 ∷ length_is 4 ∷ int 5 ∷ length_is 5 ∷ int 8 ∷ length_is 10 ∷ clear (integer 8) ∷ clear (integer 5) ∷ length_is 4 ∷ [])

-- one entry, just past the array
abbrev pub alone : List Line
alone = ints 5 0 ++ (sizes 4 1 1 ∷ length_is 5 ∷ [])

-- between 4 and 10 the middle is 7, and from there 5 or 8: 6 and 9 are borders too, and are not met
abbrev pub rounded : List Line
rounded = ints 4 0 ++ (int 5 ∷ int 6 ∷ clear (integer 5) ∷ length_is 4 ∷ int 9 ∷ int 7 ∷ length_is 7 ∷ [])

-- P10 and P11 stand last: a wrong definition might take too many steps over them, and another row refuses it first
abbrev pub rows : List Row
rows =
    row 16 16 p1
    ∷ row 16 16 p2
    ∷ row 16 16 p3
    ∷ row 0 4 p4
    ∷ row 0 4 p5
    ∷ row 0 4 p6
    ∷ row 16 16 p7
    ∷ row 16 16 p8
    ∷ row 16 16 p9
    ∷ row 0 12 doubling
    ∷ row 0 16 staying
    ∷ row 32 16 sized
    ∷ row 15 16 roomless
    ∷ row 16 16 lost
    ∷ row 16 16 bordered
    ∷ row 0 4 reserves
    ∷ row 1 16 answered
    ∷ row 1 16 keyless
    ∷ row 0 1 unvalued
    ∷ row 4 16 saturated
    ∷ row 4 16 uncounted
    ∷ row 4 2 unhidden
    ∷ row 4 1 halfway
    ∷ row_of 16 16 3 classed
    ∷ row 4 16 moved
    ∷ row 1 2 unmoved
    ∷ row 4 16 unshrunk
    ∷ row 4 16 spared
    ∷ row 0 16 three_of_six
    ∷ row 0 16 three_of_seven
    ∷ row 0 16 four_at_least
    ∷ row 0 3 three_at_most
    ∷ row 2 16 allowed
    ∷ row 1 16 emptied
    ∷ row 4 16 gaps
    ∷ row 8 16 halving
    ∷ row 0 16 doubled
    ∷ row 4 16 doublings
    ∷ row 4 1 alone
    ∷ row 4 16 rounded
    ∷ row 0 64 p10
    ∷ row 0 64 p11
    ∷ []
