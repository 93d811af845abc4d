-- Lines that change: the first that differs, taken to its new level; and how many do.
use Rattle.std.proofs.Common.{◌≡◌, ℕ, ◌+◌, Bool, true, false, not, eqb, [], ◌∷◌, length, refl, ap, arith, length-append, eq-eqb, ne_eqb}
use Rattle.std.specs.Prelude.{if◌then◌else◌}
use Rattle.std.specs.Int.{from_bool}
use Rattle.lines.specs.declared.Lines.{Lines}
use Rattle.lines.specs.Lines.{with_select, with_heads, with_readgate, with_writegate, with_command, with_request}
use Rattle.event.specs.Numbers.{Numbers}
use Rattle.capture_events.specs.Events.{event_of, change_of, changes_of}

by_test : (t : Bool) (e : Numbers) → length (if t then [] else (e ∷ [])) ≡ from_bool (not t)
by_test true e = refl
by_test false e = refl

one_line : (kind old new : ℕ) → length (change_of kind old new) ≡ from_bool (not (eqb old new))
unfolding change_of
one_line kind old new = by_test (eqb old new) (event_of kind new)

pub changes_many : (old new : Lines)
    → length (changes_of old new)
    ≡ from_bool (not (eqb old.select new.select)) + from_bool (not (eqb old.heads.0 new.heads.0)) + from_bool (not (eqb old.readgate new.readgate))
    + from_bool (not (eqb old.writegate new.writegate)) + from_bool (not (eqb old.command new.command)) + from_bool (not (eqb old.request new.request))
unfolding changes_of
changes_many old new =
    simp (length-append, one_line) (omega arith)

same : (kind old new : ℕ) → old ≡ new → change_of kind old new ≡ []
unfolding change_of
same kind old new e = ap (λ (t : Bool). if t then [] else (event_of kind new ∷ [])) (eq-eqb old new e)

other : (kind old new : ℕ) → (old ≡ new → ⊥) → change_of kind old new ≡ event_of kind new ∷ []
unfolding change_of
other kind old new d = ap (λ (t : Bool). if t then [] else (event_of kind new ∷ [])) (ne_eqb old new d)

now : (kind new : ℕ) → change_of kind new new ≡ []
now kind new = same kind new new refl

module _ (old new : Lines) where
  pub select_first : (old.select ≡ new.select → ⊥) → changes_of old new ≡ event_of 0 new.select ∷ changes_of (with_select new.select old) new
  unfolding changes_of
  select_first d = simp (other 0 _ _ d, now)

  module _ (e : old.select ≡ new.select) where
    pub heads_next : (old.heads.0 ≡ new.heads.0 → ⊥) → changes_of old new ≡ event_of 1 new.heads.0 ∷ changes_of (with_heads new.heads old) new
    unfolding changes_of
    heads_next d = simp (same 0 _ _ e, other 1 _ _ d, now)

    module _ (e1 : old.heads.0 ≡ new.heads.0) where
      pub readgate_next : (old.readgate ≡ new.readgate → ⊥) → changes_of old new ≡ event_of 3 new.readgate ∷ changes_of (with_readgate new.readgate old) new
      unfolding changes_of
      readgate_next d = simp (same 0 _ _ e, same 1 _ _ e1, other 3 _ _ d, now)

      module _ (e3 : old.readgate ≡ new.readgate) where
        pub writegate_next : (old.writegate ≡ new.writegate → ⊥) → changes_of old new ≡ event_of 2 new.writegate ∷ changes_of (with_writegate new.writegate old) new
        unfolding changes_of
        writegate_next d = simp (same 0 _ _ e, same 1 _ _ e1, same 3 _ _ e3, other 2 _ _ d, now)

        module _ (e2 : old.writegate ≡ new.writegate) where
          pub command_next : (old.command ≡ new.command → ⊥) → changes_of old new ≡ event_of 4 new.command ∷ changes_of (with_command new.command old) new
          unfolding changes_of
          command_next d = simp (same 0 _ _ e, same 1 _ _ e1, same 3 _ _ e3, same 2 _ _ e2, other 4 _ _ d, now)

          module _ (e4 : old.command ≡ new.command) where
            pub request_last : (old.request ≡ new.request → ⊥) → changes_of old new ≡ event_of 5 new.request ∷ changes_of (with_request new.request old) new
            unfolding changes_of
            request_last d = simp (same 0 _ _ e, same 1 _ _ e1, same 3 _ _ e3, same 2 _ _ e2, same 4 _ _ e4, other 5 _ _ d, now)

            pub none_changes : old.request ≡ new.request → changes_of old new ≡ []
            unfolding changes_of
            none_changes e5 = simp (same 0 _ _ e, same 1 _ _ e1, same 3 _ _ e3, same 2 _ _ e2, same 4 _ _ e4, same 5 _ _ e5)
