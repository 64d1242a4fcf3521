-- What the reader makes of a text and the caller's three spaces.
--   nothing        the place of a doorway that holds none: six zeros
--   Answer         an answer and the three spaces: doorways, points of corners, corner numbers
--   opened ps ss ns ds
--                  the faces with corner counts ss and corner numbers ns over the points ps: no edge may be used twice in one direction, and then
--                  the answer is how many doorways there are; they stand in front of what ds has
--   planned t ds ps ns
--                  the plan that the text t gives, written into the spaces: its layout, then the shape of its faces, then its edges
--   kept o a b c   the answer o, but after a fault the spaces hold a, b and c zeros
--   short a b c    spaces of a, b and c places are too short
--   answered t ds ps ns
--                  the reader's answer and the caller's spaces: spaces too short are refused and left as they were; else they are cleared, and
--                  they stay clear where the text is refused
use Rattle.std.specs.Prelude.{ℕ, Bool, cond, ◌||◌, List, ◌++◌, length, take, drop, replicate, pos, Ok, Err, Result, nat_lt}
use Rattle.text.specs.declared.faults.Fault.{Fault}
use Rattle.text.specs.declared.faults.Ground.TheVariants.{Space}
use Rattle.text.specs.Faults.{fault}
use Rattle.plane.specs.Separation.{Point}
use Rattle.polygon.specs.declared.counts.Counts.{Counts}
use Rattle.polygon.specs.declared.edge.Edge.{Edge}
use Rattle.polygon.specs.declared.layout.Plan.{Plan}
use Rattle.maps.specs.declared.passage.Passage.{Passage}
use Rattle.polygon.specs.Layouts.{Layout, laid}
use Rattle.polygon.specs.Convexity.{shapely}
use Rattle.polygon.specs.Edges.{all_edges}
use Rattle.polygon.specs.Chains.{once}
use Rattle.polygon.specs.Doorways.{doorways}

abbrev pub nothing : Passage
nothing = record { near = 0; far = 0; left_x = pos 0; left_y = pos 0; right_x = pos 0; right_y = pos 0 }

pub record Opening : Type 0 where
  pub result : Result ℕ Fault
  pub space : List Passage

abbrev pub behind : List Passage → List Passage → Opening
behind found ds = record { result = Ok (length found); space = found ++ drop (length found) ds }

abbrev pub at_once : List Point → List Edge → Result (Unit {0}) Fault → List Passage → Opening
at_once ps es (Ok u) ds = behind (doorways ps es (length es)) ds
at_once ps es (Err e) ds = record { result = Err e; space = ds }

abbrev pub opened_by : List Point → List Edge → List Passage → Opening
opened_by ps es ds = at_once ps es (once es (length es) 0) ds

abbrev pub opened : List Point → List ℕ → List ℕ → List Passage → Opening
opened ps ss ns ds = opened_by ps (all_edges 0 ss ns) ds

pub record Answer : Type 0 where
  pub result : Result Counts Fault
  pub doorways : List Passage
  pub corners : List Point
  pub numbers : List ℕ

abbrev pub refuses : Fault → List Passage → List Point → List ℕ → Answer
refuses e ds ps ns = record { result = Err e; doorways = ds; corners = ps; numbers = ns }

abbrev pub at_opened : ℕ → Result ℕ Fault → List Passage → List Point → List ℕ → Answer
at_opened rooms (Ok n) ds ps ns = record { result = Ok (record { rooms = rooms; doorways = n }); doorways = ds; corners = ps; numbers = ns }
at_opened rooms (Err e) ds ps ns = refuses e ds ps ns

abbrev pub at_shape : Result (Unit {0}) Fault → Plan → List Passage → List Point → List ℕ → List ℕ → Answer
at_shape (Ok u) p ds ps ss ns =
    at_opened p.faces (opened ps (take p.faces ss) (take p.edges ns) ds).result (opened ps (take p.faces ss) (take p.edges ns) ds).space ps ns
at_shape (Err e) p ds ps ss ns = refuses e ds ps ns

abbrev pub at_layout : Result Plan Fault → List Passage → List Point → List ℕ → List ℕ → Answer
at_layout (Ok p) ds ps ss ns = at_shape (shapely ps 0 (take p.faces ss) (take p.edges ns)) p ds ps ss ns
at_layout (Err e) ds ps ss ns = refuses e ds ps ns

abbrev pub planned : List ℕ → List Passage → List Point → List ℕ → Answer
planned t ds ps ns = let o : Layout = laid t ps (replicate 256 0) ns in at_layout o.result ds o.corners o.sizes o.numbers

abbrev pub kept : Result Counts Fault → List Passage → List Point → List ℕ → ℕ → ℕ → ℕ → Answer
kept (Ok n) ds ps ns a b c = record { result = Ok n; doorways = ds; corners = ps; numbers = ns }
kept (Err e) ds ps ns a b c = refuses e (replicate a nothing) (replicate b (pos 0, pos 0)) (replicate c 0)

abbrev pub cleared : List ℕ → ℕ → ℕ → ℕ → Answer
cleared t a b c =
    let o : Answer = planned t (replicate a nothing) (replicate b (pos 0, pos 0)) (replicate c 0) in
    kept o.result o.doorways o.corners o.numbers a b c

abbrev pub short : ℕ → ℕ → ℕ → Bool
short a b c = nat_lt a 2048 || (nat_lt b 1024 || nat_lt c 4096)

abbrev pub answered : List ℕ → List Passage → List Point → List ℕ → Answer
answered t ds ps ns =
    cond (short (length ds) (length ps) (length ns)) (refuses (fault Space 0) ds ps ns)
    (cleared t (length ds) (length ps) (length ns))
