-- The text of a key stands with the plain types, and is given again here.
pub use Rattle.off_defs.specs.KeyText.{key_text_of}
