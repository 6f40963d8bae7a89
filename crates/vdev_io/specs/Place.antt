-- A call on a file at a place of it, where the file tells its place and its bytes: it went there, and then gave or took these.
use Rattle.std.specs.Prelude.{◌≡◌, ℕ, List, length, Option, None, Some, IfSome}
use Rattle.std.specs.Io.KnownBytes.{Consumes, Appends}

-- the file went to this place, and from there it gave these bytes
pub record ReadsAt {F : Type 0} (position : F → Option ℕ) (remaining : F → Option (List ℕ)) (at : ℕ) (old new : F) (bytes : List ℕ) : Type 0 where
  pub there : F
  pub moved : IfSome (position old) (λ _. position there ≡ Some at)
  pub given : Consumes (remaining there) (remaining new) bytes

-- the file went to this place, and there it took these bytes
pub record WritesAt {F : Type 0} (position : F → Option ℕ) (contents : F → Option (List ℕ)) (at : ℕ) (old new : F) (bytes : List ℕ) : Type 0 where
  pub there : F
  pub moved : IfSome (position old) (λ _. position there ≡ Some at)
  pub taken : Appends (contents there) (contents new) bytes

-- where the file told its place and its bytes, there were so many of them
abbrev pub HasLength : {F : Type 0} → (F → Option ℕ) → (F → Option (List ℕ)) → F → ℕ → Type 0
HasLength position bytes file len = IfSome (position file) (λ _. IfSome (bytes file) (λ all. len ≡ length all))

-- what has a file keeps having one, and this became of it; what has none keeps having none
abbrev pub OnDisk : {D : Type 0} → (D → D → Type 0) → Option D → Option D → Type 0
OnDisk became None new = new ≡ None
OnDisk became (Some old) None = ⊥
OnDisk became (Some old) (Some new) = became old new
