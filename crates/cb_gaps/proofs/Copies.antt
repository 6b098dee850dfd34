-- Copies of units keep what the units keep.
use Rattle.std.proofs.Common.{◌≡◌, ℕ, ◌+◌, ◌^◌, ◌<◌, ◌≤◌, List, [], ◌∷◌, map, ap, sym, ◌∙◌, subst, refl, All}
use Rattle.std.proofs.lemmas.List.Elements.{All-nil, All-cons, All-head, All-tail, All-map}
use Rattle.std.proofs.lemmas.Simd.{map-map}
use Rattle.cb_frames.specs.declared.frame.Unit.{Unit as Carrying}
use Rattle.cb_frames.specs.Fields.{CastFields, unit_fields, first_number, last_number}
use Rattle.cb_gaps.specs.Lists.{last_of, entries_of, Rise, Below, AreKept, buffer_of}

-- what a list of units says of them, by their fields
abbrev FieldsRise : ℕ → List CastFields → Type 0
FieldsRise before [] = Unit {0}
FieldsRise before (f ∷ fields) = (before < first_number f) × (first_number f ≤ last_number f) × FieldsRise (last_number f) fields

fields_rise : (before : ℕ) (units : List Carrying) → Rise before units → FieldsRise before (map unit_fields units)
fields_rise before [] rise = tt
fields_rise before (c ∷ units) rise = (rise.0, rise.1, fields_rise (last_of c) units rise.2)

units_rise : (before : ℕ) (units : List Carrying) → FieldsRise before (map unit_fields units) → Rise before units
units_rise before [] rise = tt
units_rise before (c ∷ units) rise = (rise.0, rise.1, units_rise (last_of c) units rise.2)

units_below : (bound : ℕ) (units : List Carrying) → All (λ (f : CastFields). last_number f < bound) (map unit_fields units) → Below bound units
units_below bound [] below = All-nil (λ (c : Carrying). last_of c < bound)
units_below bound (c ∷ units) below =
    All-cons (λ (x : Carrying). last_of x < bound) c units (All-head (λ (f : CastFields). last_number f < bound) (unit_fields c) (map unit_fields units) below)
    (units_below bound units (All-tail (λ (f : CastFields). last_number f < bound) (unit_fields c) (map unit_fields units) below))

fields_entries : (units : List Carrying) → entries_of units ≡ map (λ (f : CastFields). let e : ℕ × CastFields = (first_number f, f) in e) (map unit_fields units)
fields_entries units = sym (map-map (λ (f : CastFields). let e : ℕ × CastFields = (first_number f, f) in e) unit_fields units)

module _ (units copies : List Carrying) (same : map unit_fields copies ≡ map unit_fields units) where
  rise_alike : (before : ℕ) → Rise before units → Rise before copies
  rise_alike before rise = units_rise before copies (subst (FieldsRise before) (sym same) (fields_rise before units rise))

  below_alike : (bound : ℕ) → Below bound units → Below bound copies
  below_alike bound below =
      units_below bound copies (subst (All (λ (f : CastFields). last_number f < bound)) (sym same) (All-map (λ (f : CastFields). last_number f < bound) unit_fields units below))

  entries_alike : entries_of copies ≡ entries_of units
  entries_alike =
      fields_entries copies ∙ ap (map (λ (f : CastFields). let e : ℕ × CastFields = (first_number f, f) in e)) same ∙ sym (fields_entries units)

  pub kept_alike : (window taken : ℕ) → AreKept window taken units → AreKept window taken copies
  kept_alike window taken are = record {
    width = are.width;
    rise = rise_alike taken are.rise;
    near = below_alike (taken + window + 1) are.near;
    in_range = below_alike (2 ^ 32) are.in_range;
  }

  pub buffer_alike : (window taken : ℕ) → buffer_of window taken copies ≡ buffer_of window taken units
  buffer_alike window taken = rw entries_alike refl
