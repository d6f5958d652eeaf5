-- Between two turns: where the loop of `take_turns` is, its start, a turn, and its three ends. Assumes nothing.
use mathlib.Core.Path.{◌≡◌, refl, sym, ap, ◌∙◌}
use mathlib.Core.Bool.{Bool, true, false}
use mathlib.Core.List.{List, [], ◌++◌}
use Prim.Native.Nat.{ℕ, ◌+◌, ◌-◌, ◌<◌, ◌≤◌}
use native.Mathlib.Omega.{arith}
use lib.Dec.{eqb, lit<}
use lib.ListN.{length, take, drop, length-drop}
use lib.Seq.{length-take-le, take-add, drop_at}
use borrow.Author.Tests.{ne_eqb}
use native.Mathlib.Numerals.{add-one}
use Rattle.std.specs.Prelude.{Ok, Err}
use Rattle.std.specs.Io.KnownBytes.{Appends, Consumes}
use Rattle.std.proofs.KnownBytes.{Consumes-nil, Consumes-trans, Appends-nil, Appends-trans}
use Rattle.store.specs.Store.{Store}
use Rattle.store.specs.Written.{Sound}
use Rattle.records.specs.Requests.{longest_record, is_whole}
use Rattle.session.specs.Served.{Further, Served, Turns, begin, turn}
use Rattle.trace.specs.declared.Turned.{Turned}
use Rattle.trace.specs.declared.Ended.TheVariants.{Stopped, Spent}
use Rattle.trace.specs.Rooms.{input_room, output_room}
use Rattle.trace.specs.Turn.{Answered}
use Rattle.trace.specs.Run.{most_turns, Last, Streams, Run}

-- ---- a turn as a link of the chain
module _ {s after : Store} {was : List ℕ} {held : ℕ} {input output : List ℕ} {r : Turned} (p : Answered s after was held input output r) where
  -- the bytes that came
  abbrev pub piece : List ℕ
  piece = take r.got (drop held input)

  pub piece-long : length piece ≡ r.got
  piece-long = length-take-le r.got (drop held input) (omega (arith, length-drop held input, p.came))

  joined : take (held + r.got) input ≡ take held was ++ piece
  joined = take-add held r.got input ∙ ap (λ (l : List ℕ). l ++ piece) p.holds

  pub linked : (last : Bool) → eqb r.got 0 ≡ last → Served s after (Further last) (take held was ++ piece) (take r.progress.made output) r.progress.taken r.progress.stopped
  linked last e = rw (sym joined, sym e) p.served

  abbrev pub last_turn : (stopped : Bool) → r.progress.stopped ≡ stopped → Last s (take held was) stopped
  last_turn stopped e =
      record {
        piece = piece;
        out = take r.progress.made output;
        after = after;
        taken = r.progress.taken;
        served = rw e at (linked (eqb (length piece) 0) (ap (λ (k : ℕ). eqb k 0) (sym piece-long)));
      }

-- what is moved to the front is what was not taken
moved-left : (taken n : ℕ) (l : List ℕ) → taken ≤ n → n ≤ length l → take (n - taken) (drop taken l) ≡ drop taken (take n l)
moved-left taken n l h g =
    let all : taken + (n - taken) ≡ n = omega arith in
    sym
    (ap (λ (k : ℕ). drop taken (take k l)) (sym all)
    ∙ ap (drop taken) (take-add taken (n - taken) l)
    ∙ drop_at (take taken l) (take (n - taken) (drop taken l)) taken (length-take-le taken l (omega arith)))

-- ---- the loop
-- on s and with these streams at first, after so many turns on m and with those that are here
pub record Running (first here : Streams) (s m : Store) (input output : List ℕ) (held count : ℕ) : Type 0 where
  pub reads : input_room ≡ length input
  pub writes : output_room ≡ length output
  pub sound : Sound m
  pub short : held < longest_record
  pub read : List ℕ
  pub written : List ℕ
  pub turns : Turns s count read written m (take held input)
  pub came : Consumes first.input here.input read
  pub went : Appends first.output here.output written

pub running-start : (first : Streams) (s : Store) (input output : List ℕ) → Sound s → input_room ≡ length input → output_room ≡ length output
    → Running first first s s input output 0 0
running-start first s input output S i o =
    record {
      reads = i;
      writes = o;
      sound = S;
      short = lit< tt;
      read = [];
      written = [];
      turns = begin;
      came = Consumes-nil first.input;
      went = Appends-nil first.output;
    }

module _ {m after : Store} {was : List ℕ} {held : ℕ} {input output : List ℕ} {r : Turned} (p : Answered m after was held input output r) where
  pub keeps : (r.progress.taken ≤ held + r.got) × (held + r.got ≤ length input)
  keeps =
      let long : length (take (held + r.got) input) ≡ held + r.got = length-take-le (held + r.got) input p.came in
      (omega (arith, p.served.takes, long), p.came)

module _ (first here then : Streams) {s m after : Store} {was : List ℕ} {held count : ℕ} {input output₀ output : List ℕ} {r : Turned}
    (u : Running first here s m was output₀ held count) (p : Answered m after was held input output r) (c : Consumes here.input then.input (piece p)) where
  came : Consumes first.input then.input (u.read ++ piece p)
  came = Consumes-trans first.input here.input then.input u.read (piece p) u.came c

  pub running-unwritten : {E : Type 0} (e : E) → count < most_turns → Run first then s (Err e)
  running-unwritten e g =
      record {
        count = count;
        read = u.read;
        written = u.written;
        now = m;
        held = take held was;
        turns = u.turns;
        ends = (g, r.progress.stopped, last_turn p r.progress.stopped refl);
        came = came;
        went = tt;
      }

  module _ (w : Appends here.output then.output (take r.progress.made output)) where
    went : Appends first.output then.output (u.written ++ take r.progress.made output)
    went = Appends-trans first.output here.output then.output u.written (take r.progress.made output) u.went w

    pub running-stops : r.progress.stopped ≡ true → count < most_turns → {E : Type 0} → Run {E = E} first then s (Ok Stopped)
    running-stops e g =
        record {
          count = count;
          read = u.read;
          written = u.written;
          now = m;
          held = take held was;
          turns = u.turns;
          ends = (g, last_turn p true e);
          came = came;
          went = went;
        }

    pub running-turn : r.progress.stopped ≡ false → (kept : ℕ) (moved : List ℕ) → length moved ≡ length was → length output ≡ length output₀
        → kept ≡ held + r.got - r.progress.taken → take kept moved ≡ take kept (drop r.progress.taken input)
        → Running first then s after moved output kept (count + 1)
    running-turn f kept moved i o e h =
        let n : ℕ = held + r.got in
        let waits = p.waits f in
        let got : 0 < r.got = waits.0 in
        let some : eqb r.got 0 ≡ false = ne_eqb r.got 0 (λ e. omega arith) in
        let some_piece : 0 < length (piece p) = rw (piece-long p) got in
        let rest : take kept moved ≡ drop r.progress.taken (take n input) =
        h ∙ ap (λ (k : ℕ). take k (drop r.progress.taken input)) e ∙ moved-left r.progress.taken n input (keeps p).0 (keeps p).1 in
        let held_next : drop r.progress.taken (take n input) ≡ drop r.progress.taken (take held was ++ piece p) = ap (drop r.progress.taken) (joined p) in
        let served : Served m after (Further false) (take held was ++ piece p) (take r.progress.made output) r.progress.taken false = rw f at (linked p false some) in
        record {
          reads = u.reads ∙ sym i;
          writes = u.writes ∙ sym o;
          sound = (p.served.kept u.sound).sound;
          short = rw e (p.short f);
          read = u.read ++ piece p;
          written = u.written ++ take r.progress.made output;
          turns =
              rw (add-one, rest, held_next)
              (turn u.turns (piece p) some_piece served (ap is_whole (sym held_next) ∙ waits.1));
          came = came;
          went = went;
        }

pub running-spent : (first here : Streams) {s m : Store} {input output : List ℕ} {held count : ℕ} → Running first here s m input output held count
    → count ≡ most_turns → {E : Type 0} → Run {E = E} first here s (Ok Spent)
running-spent first here {m = m} {input = input} {held = held} {count = count} u g =
    record {
      count = count;
      read = u.read;
      written = u.written;
      now = m;
      held = take held input;
      turns = u.turns;
      ends = g;
      came = u.came;
      went = u.went;
    }
