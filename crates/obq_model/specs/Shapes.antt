-- Which terms are rightly shaped: each kind of form has its parts, and binds names where it should.
use Rattle.std.specs.Prelude.{[], length, suc, zero, ℕ, ◌∷◌}
use Rattle.obq_model.specs.Terms.{Layout, NoLayout, ValueField, MethodField, AliasField, Value, Closure, Member, FieldBody, IsValue, IsMethod, IsAlias, Fields, Bare, Field, Kind, Empty, Then, Let, Var, LetRec, Group, Procedure, Assign, If, OrIf, AndIf, Operate, Call, Apply, MakeArray, Index, SetIndex, MakeObject, Select, Invoke, SetValue, SetMethod, SetAlias, Redirect, Clone, Raise, Exit, Loop, For, Foreach, Try, Finally, Watch, Read, Raising, Called, Within, Looping, Counting, EachAt, EachIn, Choosing, Unmet, Finishing, Cloning, Testing, Lined, Out, Term, Const, Name, Under, Form, Parts, End, Part}
use Rattle.obq_model.specs.Step.{operands_of}

-- what the parts of a form are, in order
pub data Pattern : Type 0 where
  NoParts : Pattern
  ATerm : Pattern → Pattern
  AScope : Pattern → Pattern  -- a part under names
  OneName : Pattern → Pattern  -- a part under one name
  ATarget : Pattern → Pattern  -- an assigned name, or what was put in for it
  Terms : Pattern  -- any number of terms
  AtMostOne : Pattern  -- one term or none
  AGroup : Pattern  -- the group of a `let rec`, under its names
  Never : Pattern  -- no parts are right

-- n terms, and then these parts
abbrev pub terms_then : ℕ → Pattern → Pattern
terms_then zero p = p
terms_then (suc n) p = ATerm (terms_then n p)

-- n parts under names
abbrev pub scopes : ℕ → Pattern
scopes zero = NoParts
scopes (suc n) = AScope (scopes n)

-- how many fields of an object literal are methods
abbrev pub methods_of : Layout → ℕ
methods_of NoLayout = 0
methods_of (ValueField x s) = methods_of s
methods_of (MethodField x s) = suc (methods_of s)
methods_of (AliasField x y s) = methods_of s

-- the parts of each kind
abbrev pub pattern_of : {R : Type 0} → Kind R → Pattern
pattern_of Empty = NoParts
pattern_of Then = ATerm (ATerm NoParts)
pattern_of Let = ATerm (OneName NoParts)
pattern_of Var = ATerm (OneName NoParts)
pattern_of LetRec = AGroup
pattern_of Group = Never
pattern_of Procedure = AScope NoParts
pattern_of Assign = ATerm (ATarget NoParts)
pattern_of If = ATerm (ATerm (ATerm NoParts))
pattern_of OrIf = ATerm (ATerm NoParts)
pattern_of AndIf = ATerm (ATerm NoParts)
pattern_of (Operate op) = ATerm (ATerm NoParts)
pattern_of Call = ATerm Terms
pattern_of (Apply b) = Terms
pattern_of MakeArray = Terms
pattern_of Index = ATerm (ATerm NoParts)
pattern_of SetIndex = ATerm (ATerm (ATerm NoParts))
pattern_of (MakeObject flags layout) = terms_then (operands_of layout) (scopes (methods_of layout))
pattern_of (Select x) = ATerm NoParts
pattern_of (Invoke x) = ATerm Terms
pattern_of (SetValue x) = ATerm (ATerm NoParts)
pattern_of (SetMethod x) = ATerm (AScope NoParts)
pattern_of (SetAlias x y) = ATerm (ATerm NoParts)
pattern_of Redirect = ATerm (ATerm NoParts)
pattern_of Clone = Terms
pattern_of Raise = ATerm NoParts
pattern_of Exit = NoParts
pattern_of Loop = ATerm NoParts
pattern_of For = ATerm (ATerm (OneName NoParts))
pattern_of Foreach = ATerm (OneName NoParts)
pattern_of Try = ATerm Terms
pattern_of Finally = ATerm (ATerm NoParts)
pattern_of Watch = ATerm (ATerm NoParts)
pattern_of (Read l) = NoParts
pattern_of (Raising r) = NoParts
pattern_of Called = ATerm NoParts
pattern_of (Within o m) = ATerm NoParts
pattern_of Looping = ATerm (ATerm NoParts)
pattern_of (Counting at last) = ATerm (OneName NoParts)
pattern_of (EachAt r at size) = OneName NoParts
pattern_of (EachIn r at size) = ATerm (OneName NoParts)
pattern_of (Choosing e) = ATerm (ATerm Terms)
pattern_of (Unmet e) = AtMostOne
pattern_of Finishing = ATerm (ATerm NoParts)
pattern_of (Cloning flags copied rest) = NoParts
pattern_of (Testing o c) = ATerm (ATerm NoParts)
pattern_of (Lined o c) = ATerm NoParts
pattern_of (Out o c) = ATerm NoParts

-- a name, or what was put in for one
abbrev pub IsTarget : {R : Type 0} → Term R → Type 0
IsTarget (Name x) = Unit {0}
IsTarget (Const v) = Unit {0}
IsTarget (Form (Read l) End) = Unit {0}
IsTarget t = ⊥

-- the term is rightly shaped, and so are the texts of the closures put into it
abbrev mutual
  pub IsShaped : {R : Type 0} → Term R → Type 0
  IsShaped (Const v) = IsShapedValue v
  IsShaped (Name x) = Unit {0}
  IsShaped (Under names t) = ⊥
  IsShaped (Form k parts) = IsShapedKind k × AreShaped (pattern_of k) parts

  -- the parts are these
  pub AreShaped : {R : Type 0} → Pattern → Parts R → Type 0
  AreShaped NoParts End = Unit {0}
  AreShaped (ATerm p) (Part t ts) = IsShaped t × AreShaped p ts
  AreShaped (AScope p) (Part t ts) = IsShapedScope t × AreShaped p ts
  AreShaped (OneName p) (Part t ts) = IsShapedUnderOne t × AreShaped p ts
  AreShaped (ATarget p) (Part t ts) = IsTarget t × IsShaped t × AreShaped p ts
  AreShaped Terms End = Unit {0}
  AreShaped Terms (Part t ts) = IsShaped t × AreShaped Terms ts
  AreShaped AtMostOne End = Unit {0}
  AreShaped AtMostOne (Part t End) = IsShaped t
  AreShaped AGroup (Part t End) = IsShapedGroup t
  AreShaped p ts = ⊥

  pub IsShapedScope : {R : Type 0} → Term R → Type 0
  IsShapedScope (Under names t) = IsShaped t
  IsShapedScope t = ⊥

  pub IsShapedUnderOne : {R : Type 0} → Term R → Type 0
  IsShapedUnderOne (Under (x ∷ []) t) = IsShaped t
  IsShapedUnderOne t = ⊥

  -- the rest of a `let rec` and a procedure for each name
  pub IsShapedGroup : {R : Type 0} → Term R → Type 0
  IsShapedGroup (Under names (Form Group (Part rest group))) = IsShaped rest × AreShaped (scopes (length names)) group
  IsShapedGroup t = ⊥

  pub IsShapedValue : {R : Type 0} → Value R → Type 0
  IsShapedValue (Closure params body) = IsShaped body
  IsShapedValue (Member names group i) = AreShaped (scopes (length names)) group
  IsShapedValue v = Unit {0}

  -- the fields that a clone has taken over so far
  pub IsShapedKind : {R : Type 0} → Kind R → Type 0
  IsShapedKind (Cloning flags copied rest) = AreShapedFields copied
  IsShapedKind k = Unit {0}

  pub AreShapedFields : {R : Type 0} → Fields R → Type 0
  AreShapedFields Bare = Unit {0}
  AreShapedFields (Field x body fs) = IsShapedField body × AreShapedFields fs

  pub IsShapedField : {R : Type 0} → FieldBody R → Type 0
  IsShapedField (IsValue v) = IsShapedValue v
  IsShapedField (IsMethod params body) = IsShaped body
  IsShapedField (IsAlias o x) = Unit {0}
