-- The ids of an endpoint, by its routes.
use Rattle.std.specs.Prelude.{◌≡◌, ◌≢◌, ◌⊎◌, ℕ, ◌<◌, List, [], ◌∷◌, ◌++◌, length, All}
use Rattle.qh_generator.specs.Given.{and_ids}
use Rattle.qh_routes.specs.Routes.{Routes, initial, issued}
use Rattle.qh_routes.specs.declared.connection_index.RouteDatagramTo.{RouteDatagramTo}
use Rattle.qh_spec.specs.Lists.{In}

-- the id is issued: it leads to something
abbrev pub IsIssued : Routes → (id : List ℕ) → Type 0
IsIssued routes id = (t : RouteDatagramTo) × In (issued id, t) routes

-- Fewer than 64 ids that are issued were drawn before this one, which isn't; no further one was.
pub record IsFreshId (routes : Routes) (old new : List (List ℕ)) (id : List ℕ) : Type 0 where
  pub drawn : List (List ℕ)
  pub few : length drawn < 64
  pub all_issued : All (IsIssued routes) drawn
  pub free : IsIssued routes id → ⊥
  pub given : new ≡ and_ids old (drawn ++ id ∷ [])

-- 64 ids were drawn, all of which are issued.
pub record AreNoneFresh (routes : Routes) (old new : List (List ℕ)) : Type 0 where
  pub drawn : List (List ℕ)
  pub all : length drawn ≡ 64
  pub all_issued : All (IsIssued routes) drawn
  pub given : new ≡ and_ids old drawn

-- a client's first packets that go to this id lead to something
abbrev pub IsInitial : Routes → (id : List ℕ) → Type 0
IsInitial routes id = (t : RouteDatagramTo) × In (initial id, t) routes

-- the id is issued, or has a route as that of a client's first packets, or it is this other one
abbrev pub IsTaken : Routes → (other id : List ℕ) → Type 0
IsTaken routes other id = IsIssued routes id ⊎ (IsInitial routes id ⊎ (id ≡ other))

-- Fewer than 64 ids that are taken were drawn before this one, which isn't; no further one was.
pub record IsFreshBut (routes : Routes) (other : List ℕ) (old new : List (List ℕ)) (id : List ℕ) : Type 0 where
  pub drawn : List (List ℕ)
  pub few : length drawn < 64
  pub all_taken : All (IsTaken routes other) drawn
  pub free : IsIssued routes id → ⊥
  pub unchosen : IsInitial routes id → ⊥
  pub apart : id ≢ other
  pub given : new ≡ and_ids old (drawn ++ id ∷ [])

-- 64 ids were drawn, all of which are taken.
pub record AreNoneFreshBut (routes : Routes) (other : List ℕ) (old new : List (List ℕ)) : Type 0 where
  pub drawn : List (List ℕ)
  pub all : length drawn ≡ 64
  pub all_taken : All (IsTaken routes other) drawn
  pub given : new ≡ and_ids old drawn

-- A source of ids after it gave some: they have the length that they had, and it takes for its own each id that it took for it.
pub record IsSameSource {G : Type 0} (cid_len : G → ℕ) (validates : G → List ℕ → Type 0) (old new : G) : Type 0 where
  pub same_len : cid_len new ≡ cid_len old
  pub kept : (id : List ℕ) → validates old id → validates new id
