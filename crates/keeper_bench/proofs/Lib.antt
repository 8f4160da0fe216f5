-- The laws of the translations.
pub mod Translations
