-- What each call answers after a history, and what it leaves in the caller's space.
--   Space               the places that the caller lends: for the doorways of a witness, and for a bitmap
--   space_of o          the space of the order o
--   FillAnswered ..    a missing room is refused; else the answer counts the true row
--   ShowsAnswered ..   missing rooms and a row that is not current are refused; else yes for exactly the true row
--   TurnAnswered ..    a missing doorway, and one that is shut or open already, are refused; else the answer counts the rows lost
--   WitnessFound ..    the first open walk in dictionary order that has a separating line is written in front of the space, and the line
--                       separates its path
--   WitnessAnswered .. missing rooms, the same room twice and a space of fewer than n − 1 places are refused, and `NoLine` is the
--                       answer exactly where no open walk has a line; else the first that has one is written, and the line separates
--   size n              how many bytes the bitmap of n rooms has
--   BitmapAnswered ..  refused while any row is not current, and where the space is shorter than the bitmap; else the bitmap of the true
--                       rows is written
--   Replied k w h c r s t
--                       the call c after h answers r and turns the space s into t, where k says whether the stabber is sharp
--   Answered k w h o p  the order o, made after h, has become p
--   calls_of os         the calls of the orders os
use Rattle.std.specs.Prelude.{◌≡◌, ℕ, ◌+◌, ◌*◌, ◌<◌, ◌≤◌, Bool, true, false, ◌⊎◌, List, ◌++◌, map, length, take, drop, Some, Ok, Err, Result, vec_items, ◌≢◌}
use Rattle.plane.specs.declared.quad.Quad.{Quad}
use Rattle.plane.specs.Limits.{InLimits}
use Rattle.plane.specs.Separation.{Proper, Separates, Stabbed}
use Rattle.visibility.specs.declared.refusal.Refusal.{Refusal}
use Rattle.visibility.specs.declared.refusal.Refusal.TheVariants.{NoSuchRoom, NotFilled, NoSuchDoorway, Already, SameRoomTwice, SpaceTooShort, NoLine}
use Rattle.visibility.specs.declared.call.Call.{Call}
use Rattle.visibility.specs.declared.call.Call.TheVariants.{Fill, Shows, Shut, Open, Witness, Bitmap}
use Rattle.visibility.specs.declared.call.Answer.{Answer}
use Rattle.visibility.specs.declared.call.Answer.TheVariants.{Count, Seen, Found, Written, NotSharp}
use Rattle.visibility.specs.declared.order.Order.{Order}
use Rattle.visibility.specs.declared.sightline.Sightline.{Sightline}
use Rattle.visibility.specs.Bitmaps.{heading, width, Pbm}
use Rattle.visibility.specs.Histories.{shut_after, SeenAfter, Current, Counts, Lost}
use Rattle.visibility.specs.Sets.{Numbers, Exactly}
use Rattle.visibility.specs.Walks.{Lined}
use Rattle.visibility.specs.Witnesses.{FirstOf}
use Rattle.visibility.specs.Worlds.{World}

pub record Space : Type 0 where
  pub doorways : List ℕ
  pub bytes : List ℕ

abbrev pub space_of : Order → Space
space_of o = record { doorways = vec_items o.doorways; bytes = vec_items o.bytes }

pub record TurnAnswered (w : World) (h : List Call) (c : Call) (k : ℕ) (v : Bool) (r : Result Answer Refusal) : Type 0 where
  pub missing : length w.doorways ≤ k → r ≡ Err NoSuchDoorway
  pub already : k < length w.doorways → shut_after w h k ≡ v → r ≡ Err Already
  pub done : k < length w.doorways → (shut_after w h k ≢ v) → (n : ℕ) × (r ≡ Ok (Count n)) × Counts w.rooms (Lost w h c) n

pub record FillAnswered (w : World) (h : List Call) (a : ℕ) (r : Result Answer Refusal) : Type 0 where
  pub missing : w.rooms ≤ a → r ≡ Err NoSuchRoom
  pub done : a < w.rooms → (n : ℕ) × (r ≡ Ok (Count n)) × Counts w.rooms (SeenAfter w h a) n

pub record ShowsAnswered (w : World) (h : List Call) (a b : ℕ) (r : Result Answer Refusal) : Type 0 where
  pub missing : (w.rooms ≤ a) ⊎ (w.rooms ≤ b) → r ≡ Err NoSuchRoom
  pub unfilled : a < w.rooms → b < w.rooms → (Current w h a → ⊥) → r ≡ Err NotFilled
  pub done : a < w.rooms → b < w.rooms → Current w h a → (y : Bool) × (r ≡ Ok (Seen y)) × (y ≡ true → SeenAfter w h a b) × (SeenAfter w h a b → y ≡ true)

pub record WitnessFound (w : World) (shut : Numbers) (a b : ℕ) (v : Sightline) (xs ys : List ℕ) : Type 0 where
  pub doorways : List ℕ
  pub path : List Quad
  pub first_walk : FirstOf Stabbed w shut a b doorways path
  pub separates : Proper v.line × InLimits v.line × Separates v.line path
  pub count : v.doorways ≡ length doorways
  pub written : ys ≡ doorways ++ drop (length doorways) xs

pub record WitnessAnswered (w : World) (h : List Call) (a b : ℕ) (r : Result Answer Refusal) (xs ys : List ℕ) : Type 0 where
  pub missing : (w.rooms ≤ a) ⊎ (w.rooms ≤ b) → r ≡ Err NoSuchRoom
  pub same_room : a < w.rooms → b < w.rooms → a ≡ b → r ≡ Err SameRoomTwice
  pub short : a < w.rooms → b < w.rooms → (a ≢ b) → length xs + 1 < w.rooms → r ≡ Err SpaceTooShort
  pub unlined :
      a < w.rooms → b < w.rooms → (a ≢ b) → w.rooms ≤ length xs + 1 → (Lined w (shut_after w h) a b → ⊥) → r ≡ Err NoLine
  pub done :
      a < w.rooms → b < w.rooms → (a ≢ b) → w.rooms ≤ length xs + 1 → Lined w (shut_after w h) a b
      → (v : Sightline) × (r ≡ Ok (Found v)) × WitnessFound w (shut_after w h) a b v xs ys
  pub kept : (e : Refusal) → r ≡ Err e → ys ≡ xs

abbrev pub size : ℕ → ℕ
size n = length (heading n) + n * width n

pub record BitmapWritten (w : World) (h : List Call) (n : ℕ) (xs ys : List ℕ) : Type 0 where
  pub rows : ℕ → Numbers
  pub true_rows : (a : ℕ) → a < w.rooms → Exactly (rows a) (SeenAfter w h a)
  pub count : n ≡ size w.rooms
  pub bitmap : Pbm w.rooms rows (take n ys)
  pub rest : drop n ys ≡ drop n xs

pub record BitmapAnswered (w : World) (h : List Call) (r : Result Answer Refusal) (xs ys : List ℕ) : Type 0 where
  pub unfilled : (a : ℕ) → a < w.rooms → (Current w h a → ⊥) → r ≡ Err NotFilled
  pub short : ((a : ℕ) → a < w.rooms → Current w h a) → length xs < size w.rooms → r ≡ Err SpaceTooShort
  pub done :
      ((a : ℕ) → a < w.rooms → Current w h a) → size w.rooms ≤ length xs
      → (n : ℕ) × (r ≡ Ok (Written n)) × BitmapWritten w h n xs ys
  pub kept : (e : Refusal) → r ≡ Err e → ys ≡ xs

abbrev pub WitnessReplied : Bool → World → List Call → ℕ → ℕ → Result Answer Refusal → Space → Space → Type 0
WitnessReplied true w h a b r s t = WitnessAnswered w h a b r s.doorways t.doorways × (t.bytes ≡ s.bytes)
WitnessReplied false w h a b r s t = (r ≡ Ok NotSharp) × (t ≡ s)

abbrev pub Replied : Bool → World → List Call → Call → Result Answer Refusal → Space → Space → Type 0
Replied k w h (Fill a) r s t = FillAnswered w h a r × (t ≡ s)
Replied k w h (Shows a b) r s t = ShowsAnswered w h a b r × (t ≡ s)
Replied k w h (Shut x) r s t = TurnAnswered w h (Shut x) x true r × (t ≡ s)
Replied k w h (Open x) r s t = TurnAnswered w h (Open x) x false r × (t ≡ s)
Replied k w h (Witness a b) r s t = WitnessReplied k w h a b r s t
Replied k w h Bitmap r s t = BitmapAnswered w h r s.bytes t.bytes × (t.doorways ≡ s.doorways)

pub record Answered (k : Bool) (w : World) (h : List Call) (o p : Order) : Type 0 where
  pub answer : Result Answer Refusal
  pub is_answer : p.answer ≡ Some answer
  pub replied : Replied k w h o.call answer (space_of o) (space_of p)
  pub call : p.call ≡ o.call

abbrev pub calls_of : List Order → List Call
calls_of os = map (λ (o : Order). o.call) os
