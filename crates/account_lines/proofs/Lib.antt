pub mod FrontTexts
