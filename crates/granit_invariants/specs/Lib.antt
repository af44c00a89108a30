pub mod RisingColumns
pub mod RisingKeys
pub mod EventPlaces
